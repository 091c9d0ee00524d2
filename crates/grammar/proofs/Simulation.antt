-- The reader does what the machine does, under the limits.
use Rattle.std.proofs.Common.{◌≡◌, ℕ, zero, suc, ◌+◌, Bool, true, false, cond, not, ◌&&◌, ◌||◌, eqb, ltb, leb, List, [], ◌∷◌, ◌++◌, refl, ap, ◌∙◌, arith}
use mathlib.Core.Option.{Option, none, some}
use Rattle.std.proofs.lemmas.Bool.{le-leb, lt-leb, and_parts}
use Rattle.calculus.specs.Types.{Ty, N}
use Rattle.syntax.specs.declared.refusal.Fault.TheVariants.{WrongSign, LargeNumber, PassedLimit}
use Rattle.syntax.specs.declared.signs.Joint.{Joint}
use Rattle.syntax.specs.declared.signs.Joint.TheVariants.{Arrow, Product}
use Rattle.syntax.specs.Trees.{Name, Binder, Tree, occ, num}
use Rattle.syntax.specs.Signs.{word, digits, mark, Placed, is_let, is_iter, is_name, is_number, number_of}
use Rattle.syntax.specs.Parse.{Out, got, refused, and_then, refuse, limited, is_mark, is_word_in, expect, binder, joint, join, TypeReader, joined, type_by, type, TermReader, function_head, let_head, successor, function, application, couple, let_in, iterator, term_by, term}
use Rattle.grammar.specs.Roles.{Role, begins, number, base, connective, plain}
use Rattle.grammar.proofs.Machine.{Item, a_term, a_type, a_binder, a_joint, an_in, only, Val, Vals, Move, alone, succ_move, lam_move, app_move, pair_move, let_move, iter_move, bracket_move, make}
use Rattle.grammar.proofs.Runs.{passes, refuses, Check, Outcome, done, stop, mapped, admit, advance, run}

-- is there room for one more sign of this role, where n sub-terms and m type signs stand before it?
abbrev pub room : ℕ → ℕ → Role → Bool
room n m ρ = (leb ρ.depth 128 && (not ρ.subterm || ltb n 2048)) && (leb ρ.type_depth 64 && (not ρ.type_sign || ltb m 2048))

abbrev pub limits : Check
limits n m ρ = cond (leb ρ.value 1000000000) (cond (room n m ρ) (passes (cond ρ.subterm (suc n) n) (cond ρ.type_sign (suc m) m)) (refuses PassedLimit)) (refuses LargeNumber)

-- what follows what was read
abbrev pub handle : {A B : Type 0} → Out A → (A → List Placed → Outcome B) → Outcome B
handle (got a s) k = k a s
handle (refused f) k = stop f

mapped_twice : {A B C : Type 0} (f : B → C) (g : A → B) (o : Outcome A) → mapped f (mapped g o) ≡ mapped (λ a. f (g a)) o
mapped_twice f g (done a) = refl
mapped_twice f g (stop r) = refl

-- reading one thing after another
pub step_then : {A B C : Type 0} (o : Out A) (k : A → List Placed → Out B) (c : B → List Placed → Outcome C) {X : Outcome C} {Y : A → List Placed → Outcome C} → X ≡ handle o Y → ((a : A) (r : List Placed) → Y a r ≡ handle (k a r) c) → X ≡ handle (and_then o k) c
step_then (got a s) k c h f = h ∙ f a s
step_then (refused r) k c h f = h

and_true : (b : Bool) → (b && true) ≡ b
and_true true = refl
and_true false = refl

module _ (end : ℕ) where
  abbrev go : List Placed → (K : List Item) → ℕ → ℕ → Outcome (Vals K)
  go s K n m = run limits end s K n m

  -- the machine goes on after the item, with the value and the counters that its reader gave
  abbrev onwards : {A V C : Type 0} (K : List Item) → (A → V) → (A → ℕ) → (A → ℕ) → (V × Vals K → C) → A → List Placed → Outcome C
  onwards K val first second f a r = mapped (λ vs. f (val a, vs)) (go r K (first a) (second a))

  -- the machine with the item on top does what the reader of the item does
  abbrev pub Sims : (i : Item) (n m : ℕ) (s : List Placed) {A : Type 0} → Out A → (A → Val i) → (A → ℕ) → (A → ℕ) → Type 1
  Sims i n m s {A} o val first second = (K : List Item) (C : Type 0) (f : Vals (i ∷ K) → C) → mapped f (go s (i ∷ K) n m) ≡ handle o (onwards K val first second f)

  -- one sign
  module _ {V A C : Type 0} (K : List Item) (n m p : ℕ) (s : List Placed) (f : V × Vals K → C) (c : A → List Placed → Outcome C) where
    abbrev Meets : Option (Move V) → Out A → Type 0
    Meets o r = mapped f (advance limits K n m p o (run limits end s)) ≡ handle r c

    meets_cond : (b : Bool) (o₁ o₂ : Option (Move V)) (r₁ r₂ : Out A) → (b ≡ true → Meets o₁ r₁) → Meets o₂ r₂ → Meets (cond b o₁ o₂) (cond b r₁ r₂)
    meets_cond true o₁ o₂ r₁ r₂ x y = x refl
    meets_cond false o₁ o₂ r₁ r₂ x y = y

    -- a role that the check lets through, and one that it tells from the limits
    meets_plain : (μ : Move V) (r : Out A) (k j : ℕ) → limits n m μ.role ≡ passes k j → mapped (λ w. f (make μ p K w)) (go s (μ.rest ++ K) k j) ≡ handle r c → Meets (some μ) r
    meets_plain μ r k j e h = ap (λ z. mapped f (admit z p (λ a b. mapped (make μ p K) (go s (μ.rest ++ K) a b)))) e ∙ mapped_twice f (make μ p K) (go s (μ.rest ++ K) k j) ∙ h

    meets_limited : (μ : Move V) (r : Out A) (b : Bool) → room n m μ.role ≡ b → leb μ.role.value 1000000000 ≡ true → (b ≡ true → mapped (λ w. f (make μ p K w)) (go s (μ.rest ++ K) (cond μ.role.subterm (suc n) n) (cond μ.role.type_sign (suc m) m)) ≡ handle r c) → Meets (some μ) (limited b p r)
    meets_limited μ r true e v h = meets_plain μ r _ _ (rw (v, e) refl) (h refl)
    meets_limited μ r false e v h = ap (λ z. mapped f (admit z p (λ a b. mapped (make μ p K) (go s (μ.rest ++ K) a b)))) (let w : limits n m μ.role ≡ refuses PassedLimit = rw (v, e) refl in w)

  -- marks, the word in, binders
  abbrev unread : {A V C : Type 0} (K : List Item) (n m : ℕ) → (A → V) → (V × Vals K → C) → A → List Placed → Outcome C
  unread K n m val f = onwards K val (λ a. n) (λ a. m) f

  sim_only : (b n m : ℕ) (s : List Placed) → Sims (only b) n m s (expect end (is_mark b) s) (λ a. tt) (λ a. n) (λ a. m)
  sim_only b n m [] K C f = refl
  sim_only b n m ((p, x) ∷ s) K C f =
      let c : Unit {0} → List Placed → Outcome C = unread K n m (λ a. tt) f in
      meets_cond K n m p s f c (is_mark b x) _ none _ _ (λ e. meets_plain K n m p s f c (alone plain (λ q. tt)) (got tt s) n m refl refl) refl

  sim_in : (n m : ℕ) (s : List Placed) → Sims an_in n m s (expect end is_word_in s) (λ a. tt) (λ a. n) (λ a. m)
  sim_in n m [] K C f = refl
  sim_in n m ((p, x) ∷ s) K C f =
      let c : Unit {0} → List Placed → Outcome C = unread K n m (λ a. tt) f in
      meets_cond K n m p s f c (is_word_in x) _ none _ _ (λ e. meets_plain K n m p s f c (alone plain (λ q. tt)) (got tt s) n m refl refl) refl

  sim_binder : (n m : ℕ) (s : List Placed) → Sims a_binder n m s (binder end s) (λ a. a) (λ a. n) (λ a. m)
  sim_binder n m [] K C f = refl
  sim_binder n m ((p, word w) ∷ s) K C f =
      let c : Binder → List Placed → Outcome C = unread K n m (λ a. a) f in
      meets_cond K n m p s f c (is_name w) _ none _ _ (λ e. meets_plain K n m p s f c (alone plain (λ q. record { place = q; name = w })) (got (record { place = p; name = w }) s) n m refl refl) refl
  sim_binder n m ((p, digits ds) ∷ s) K C f = refl
  sim_binder n m ((p, mark b) ∷ s) K C f = refl

  -- types
  sim_joint : (n m : ℕ) (s : List Placed) → Sims a_joint n m s (joint end m s) (λ a. a) (λ a. n) (λ a. suc m)
  sim_joint n m [] K C f = refl
  sim_joint n m ((p, word w) ∷ s) K C f = refl
  sim_joint n m ((p, digits ds) ∷ s) K C f = refl
  sim_joint n m ((p, mark b) ∷ s) K C f =
      let c : Joint → List Placed → Outcome C = unread K n (suc m) (λ a. a) f in
      meets_cond K n m p s f c (eqb b 62) _ _ _ _ (λ e. meets_limited K n m p s f c (alone connective (λ q. Arrow)) (got Arrow s) (ltb m 2048) refl refl (λ t. refl))
      (meets_cond K n m p s f c (eqb b 42) _ none _ _ (λ e. meets_limited K n m p s f c (alone connective (λ q. Product)) (got Product s) (ltb m 2048) refl refl (λ t. refl)) refl)

  abbrev TypeSims : ℕ → ℕ → TypeReader → Type 1
  TypeSims d n part = (m : ℕ) (s : List Placed) → Sims (a_type d) n m s (part m s) (λ a. a.0) (λ a. n) (λ a. a.1)

  sim_joined : (d n m : ℕ) (part : TypeReader) (s : List Placed) → TypeSims d n part → (K : List Item) (C : Type 0) (f : Ty × Vals K → C) → mapped (λ w. f (join w.1.0 w.0 w.1.1.0, w.1.1.1.1)) (go s (a_type d ∷ a_joint ∷ a_type d ∷ only 41 ∷ K) n m) ≡ handle (joined end part m s) (onwards K (λ a. a.0) (λ a. n) (λ a. a.1) f)
  sim_joined d n m part s h K C f =
      step_then (part m s) _ _ (h m s _ _ _) (λ a s₁.
      step_then (joint end a.1 s₁) _ _ (sim_joint n a.1 s₁ _ _ _) (λ j s₂.
      step_then (part (suc a.1) s₂) _ _ (h (suc a.1) s₂ _ _ _) (λ b s₃.
      step_then (expect end (is_mark 41) s₃) _ _ (sim_only 41 n b.1 s₃ _ _ _) (λ _ s₄. refl))))

  sim_type_by : (fits : Bool) (d n m : ℕ) (part : TypeReader) (s : List Placed) → leb d 64 ≡ fits → (fits ≡ true → TypeSims (suc d) n part) → Sims (a_type d) n m s (type_by end fits part m s) (λ a. a.0) (λ a. n) (λ a. a.1)
  sim_type_by fits d n m part [] e h K C f = refl
  sim_type_by fits d n m part ((p, word w) ∷ s) e h K C f = refl
  sim_type_by fits d n m part ((p, digits ds) ∷ s) e h K C f = refl
  sim_type_by fits d n m part ((p, mark b) ∷ s) e h K C f =
      let c : Ty × ℕ → List Placed → Outcome C = onwards K (λ a. a.0) (λ a. n) (λ a. a.1) f in
      meets_cond K n m p s f c (eqb b 78) _ _ _ _ (λ _. meets_limited K n m p s f c (alone (base d) (λ q. N)) (got (N, suc m) s) (fits && ltb m 2048) (ap (λ z. z && ltb m 2048) e) refl (λ t. refl))
      (meets_cond K n m p s f c (eqb b 40) _ none _ _ (λ _. meets_limited K n m p s f c (bracket_move d) (joined end part m s) fits (and_true (leb d 64) ∙ e) refl (λ t. sim_joined (suc d) n m part s (h t) K C f)) refl)

  sim_type : (levels d n : ℕ) → d + levels ≡ 65 → TypeSims d n (type end levels)
  unfolding type
  sim_type zero d n e m s = sim_type_by false d n m (λ k r. refuse WrongSign end) s (lt-leb d 64 (omega arith)) (λ t. let z : ◌≡◌ {A = ℕ} 0 1 = cc in absurd (omega arith))
  sim_type (suc levels) d n e m s = sim_type_by true d n m (type end levels) s (le-leb d 64 (omega arith)) (λ t. sim_type levels (suc d) n (omega arith))

  -- terms
  abbrev TermSims : ℕ → TermReader → Type 1
  TermSims d part = (n m : ℕ) (s : List Placed) → Sims (a_term d) n m s (part n m s) (λ a. a.0) (λ a. a.1) (λ a. a.2)

  abbrev counted : {C : Type 0} (K : List Item) → (Tree Name × Vals K → C) → Tree Name × ℕ × ℕ → List Placed → Outcome C
  counted K f = onwards K (λ a. a.0) (λ a. a.1) (λ a. a.2) f

  -- what follows the first sign of a term: the move's items, read one after another
  abbrev Follows : ℕ → Move (Tree Name) → (ℕ → TermReader) → Type 1
  Follows p μ reader = (n m : ℕ) (s : List Placed) (K : List Item) (C : Type 0) (f : Tree Name × Vals K → C) → mapped (λ w. f (make μ p K w)) (go s (μ.rest ++ K) n m) ≡ handle (reader p n m s) (counted K f)

  sim_succ : (d p : ℕ) (part : TermReader) → TermSims (suc d) part → Follows p (succ_move d) (successor part)
  sim_succ d p part h n m s K C f = step_then (part n m s) _ _ (h n m s _ _ _) (λ t s₁. refl)

  sim_app : (d p : ℕ) (part : TermReader) → TermSims (suc d) part → Follows p (app_move d) (application end part)
  sim_app d p part h n m s K C f =
      step_then (part n m s) _ _ (h n m s _ _ _) (λ t s₁.
      step_then (part t.1 t.2 s₁) _ _ (h t.1 t.2 s₁ _ _ _) (λ u s₂.
      step_then (expect end (is_mark 41) s₂) _ _ (sim_only 41 u.1 u.2 s₂ _ _ _) (λ _ s₃. refl)))

  sim_pair : (d p : ℕ) (part : TermReader) → TermSims (suc d) part → Follows p (pair_move d) (couple end part)
  sim_pair d p part h n m s K C f =
      step_then (part n m s) _ _ (h n m s _ _ _) (λ t s₁.
      step_then (expect end (is_mark 44) s₁) _ _ (sim_only 44 t.1 t.2 s₁ _ _ _) (λ _ s₂.
      step_then (part t.1 t.2 s₂) _ _ (h t.1 t.2 s₂ _ _ _) (λ u s₃.
      step_then (expect end (is_mark 62) s₃) _ _ (sim_only 62 u.1 u.2 s₃ _ _ _) (λ _ s₄. refl))))

  sim_iter : (d p : ℕ) (part : TermReader) → TermSims (suc d) part → Follows p (iter_move d) (iterator part)
  sim_iter d p part h n m s K C f =
      step_then (part n m s) _ _ (h n m s _ _ _) (λ t s₁.
      step_then (part t.1 t.2 s₁) _ _ (h t.1 t.2 s₁ _ _ _) (λ u s₂.
      step_then (part u.1 u.2 s₂) _ _ (h u.1 u.2 s₂ _ _ _) (λ v s₃. refl)))

  -- the heads of functions and lets
  sim_function_head : (n m : ℕ) (s : List Placed) (K : List Item) (C : Type 0) (f : Vals (a_binder ∷ only 58 ∷ a_type 1 ∷ only 46 ∷ K) → C) → mapped f (go s (a_binder ∷ only 58 ∷ a_type 1 ∷ only 46 ∷ K) n m) ≡ handle (function_head end m s) (λ h r. mapped (λ vs. f (h.0, (tt, (h.1, (tt, vs))))) (go r K n h.2))
  sim_function_head n m s K C f =
      step_then (binder end s) _ _ (sim_binder n m s _ _ _) (λ x s₁.
      step_then (expect end (is_mark 58) s₁) _ _ (sim_only 58 n m s₁ _ _ _) (λ _ s₂.
      step_then (type end 64 m s₂) _ _ (sim_type 64 1 n refl m s₂ _ _ _) (λ T s₃.
      step_then (expect end (is_mark 46) s₃) _ _ (sim_only 46 n T.1 s₃ _ _ _) (λ _ s₄. refl))))

  sim_lam : (d p : ℕ) (part : TermReader) → TermSims (suc d) part → Follows p (lam_move d) (function end part)
  sim_lam d p part h n m s K C f =
      step_then (function_head end m s) _ _ (sim_function_head n m s _ _ _) (λ x s₁.
      step_then (part n x.2 s₁) _ _ (h n x.2 s₁ _ _ _) (λ t s₂. refl))

  sim_let_head : (n m : ℕ) (s : List Placed) (K : List Item) (C : Type 0) (f : Vals (only 60 ∷ a_binder ∷ only 44 ∷ a_binder ∷ only 62 ∷ only 61 ∷ K) → C) → mapped f (go s (only 60 ∷ a_binder ∷ only 44 ∷ a_binder ∷ only 62 ∷ only 61 ∷ K) n m) ≡ handle (let_head end s) (λ h r. mapped (λ vs. f (tt, (h.0, (tt, (h.1, (tt, (tt, vs))))))) (go r K n m))
  sim_let_head n m s K C f =
      step_then (expect end (is_mark 60) s) _ _ (sim_only 60 n m s _ _ _) (λ _ s₁.
      step_then (binder end s₁) _ _ (sim_binder n m s₁ _ _ _) (λ x s₂.
      step_then (expect end (is_mark 44) s₂) _ _ (sim_only 44 n m s₂ _ _ _) (λ _ s₃.
      step_then (binder end s₃) _ _ (sim_binder n m s₃ _ _ _) (λ y s₄.
      step_then (expect end (is_mark 62) s₄) _ _ (sim_only 62 n m s₄ _ _ _) (λ _ s₅.
      step_then (expect end (is_mark 61) s₅) _ _ (sim_only 61 n m s₅ _ _ _) (λ _ s₆. refl))))))

  sim_let : (d p : ℕ) (part : TermReader) → TermSims (suc d) part → Follows p (let_move d) (let_in end part)
  sim_let d p part h n m s K C f =
      step_then (let_head end s) _ _ (sim_let_head n m s _ _ _) (λ x s₁.
      step_then (part n m s₁) _ _ (h n m s₁ _ _ _) (λ t s₂.
      step_then (expect end is_word_in s₂) _ _ (sim_in t.1 t.2 s₂ _ _ _) (λ _ s₃.
      step_then (part t.1 t.2 s₃) _ _ (h t.1 t.2 s₃ _ _ _) (λ u s₄. refl))))

  term_room : (fits : Bool) (d n : ℕ) → leb d 128 ≡ fits → ((leb d 128 && ltb n 2048) && true) ≡ (fits && ltb n 2048)
  term_room fits d n e = and_true (leb d 128 && ltb n 2048) ∙ ap (λ z. z && ltb n 2048) e

  -- a number: is it small enough, and is there room?
  sim_number : (fits : Bool) (d n m p : ℕ) (v : ℕ) (s : List Placed) (K : List Item) (C : Type 0) (f : Tree Name × Vals K → C) → leb d 128 ≡ fits → (b : Bool) → leb v 1000000000 ≡ b → Meets K n m p s f (counted K f) (some (alone (number d v) (λ q. num q v))) (cond b (limited (fits && ltb n 2048) p (got (num p v, suc n, m) s)) (refuse LargeNumber p))
  sim_number fits d n m p v s K C f e true b = meets_limited K n m p s f (counted K f) (alone (number d v) (λ q. num q v)) (got (num p v, suc n, m) s) (fits && ltb n 2048) (term_room fits d n e) b (λ t. refl)
  sim_number fits d n m p v s K C f e false b = ap (λ z. mapped f (admit z p (λ a j. mapped (make (alone (number d v) (λ q. num q v)) p K) (go s K a j)))) (let w : limits n m (number d v) ≡ refuses LargeNumber = rw b refl in w)

  sim_term_by : (fits : Bool) (d : ℕ) (part : TermReader) → leb d 128 ≡ fits → (fits ≡ true → TermSims (suc d) part) → TermSims d (term_by end fits part)
  sim_term_by fits d part e h n m [] K C f = refl
  sim_term_by fits d part e h n m ((p, word w) ∷ s) K C f =
      let fit : (fits && ltb n 2048) ≡ true → TermSims (suc d) part = λ t. h (and_parts fits (ltb n 2048) t).0 in
      meets_cond K n m p s f (counted K f) (is_let w) _ _ _ _ (λ _. meets_limited K n m p s f (counted K f) (let_move d) (let_in end part p (suc n) m s) (fits && ltb n 2048) (term_room fits d n e) refl (λ t. sim_let d p part (fit t) (suc n) m s K C f))
      (meets_cond K n m p s f (counted K f) (is_iter w) _ _ _ _ (λ _. meets_limited K n m p s f (counted K f) (iter_move d) (iterator part p (suc n) m s) (fits && ltb n 2048) (term_room fits d n e) refl (λ t. sim_iter d p part (fit t) (suc n) m s K C f))
      (meets_cond K n m p s f (counted K f) (is_name w) _ none _ _ (λ _. meets_limited K n m p s f (counted K f) (alone (begins d) (λ q. occ q w)) (got (occ p w, suc n, m) s) (fits && ltb n 2048) (term_room fits d n e) refl (λ t. refl)) refl))
  sim_term_by fits d part e h n m ((p, digits ds) ∷ s) K C f =
      meets_cond K n m p s f (counted K f) (is_number ds) _ none _ _ (λ _. sim_number fits d n m p (number_of ds) s K C f e (leb (number_of ds) 1000000000) refl) refl
  sim_term_by fits d part e h n m ((p, mark b) ∷ s) K C f =
      let fit : (fits && ltb n 2048) ≡ true → TermSims (suc d) part = λ t. h (and_parts fits (ltb n 2048) t).0 in
      meets_cond K n m p s f (counted K f) (eqb b 83) _ _ _ _ (λ _. meets_limited K n m p s f (counted K f) (succ_move d) (successor part p (suc n) m s) (fits && ltb n 2048) (term_room fits d n e) refl (λ t. sim_succ d p part (fit t) (suc n) m s K C f))
      (meets_cond K n m p s f (counted K f) (eqb b 92) _ _ _ _ (λ _. meets_limited K n m p s f (counted K f) (lam_move d) (function end part p (suc n) m s) (fits && ltb n 2048) (term_room fits d n e) refl (λ t. sim_lam d p part (fit t) (suc n) m s K C f))
      (meets_cond K n m p s f (counted K f) (eqb b 40) _ _ _ _ (λ _. meets_limited K n m p s f (counted K f) (app_move d) (application end part p (suc n) m s) (fits && ltb n 2048) (term_room fits d n e) refl (λ t. sim_app d p part (fit t) (suc n) m s K C f))
      (meets_cond K n m p s f (counted K f) (eqb b 60) _ none _ _ (λ _. meets_limited K n m p s f (counted K f) (pair_move d) (couple end part p (suc n) m s) (fits && ltb n 2048) (term_room fits d n e) refl (λ t. sim_pair d p part (fit t) (suc n) m s K C f)) refl)))

  pub sim_term : (levels d : ℕ) → d + levels ≡ 129 → TermSims d (term end levels)
  unfolding term
  sim_term zero d e n m s = sim_term_by false d (λ k l r. refuse WrongSign end) (lt-leb d 128 (omega arith)) (λ t. let z : ◌≡◌ {A = ℕ} 0 1 = cc in absurd (omega arith)) n m s
  sim_term (suc levels) d e n m s = sim_term_by true d (term end levels) (le-leb d 128 (omega arith)) (λ t. sim_term levels (suc d) (omega arith)) n m s
