-- Runs of the reading machine under any check of roles: what they accept, and where they stop.
use Rattle.std.proofs.Common.{◌≡◌, ℕ, suc, ◌⊎◌, List, [], ◌∷◌, ◌++◌, length, sym, refl, ap, ◌∙◌, subst, inl, inr, arith}
use mathlib.Core.Option.{Option, none, some}
use Rattle.syntax.specs.declared.refusal.Fault.{Fault}
use Rattle.syntax.specs.declared.refusal.Fault.TheVariants.{WrongSign}
use Rattle.syntax.specs.declared.refusal.Refusal.{Refusal}
use Rattle.syntax.specs.Signs.{Sign, Placed}
use Rattle.syntax.specs.Names.{fault}
use Rattle.grammar.specs.Roles.{Role}
use Rattle.grammar.specs.Reading.{place_of_next, SameNext}
use Rattle.grammar.proofs.Machine.{Item, Val, Vals, Fills, all_roles, Move, next, make, backwards, forwards, not_empty, fillable}

-- a check of one more role, with two counters; and what a run gives
pub data Checks : Type 0 where
  passes : ℕ → ℕ → Checks
  refuses : Fault → Checks

abbrev pub Check : Type 0
Check = ℕ → ℕ → Role → Checks

pub data Outcome (A : Type 0) : Type 0 where
  done : A → Outcome A
  stop : Refusal → Outcome A

abbrev pub mapped : {A B : Type 0} → (A → B) → Outcome A → Outcome B
mapped f (done a) = done (f a)
mapped f (stop r) = stop r

abbrev pub admit : {A : Type 0} → Checks → ℕ → (ℕ → ℕ → Outcome A) → Outcome A
admit (passes n m) p go = go n m
admit (refuses f) p go = stop (fault f p)

abbrev pub advance : {V : Type 0} → Check → (K : List Item) → ℕ → ℕ → ℕ → Option (Move V) → ((J : List Item) → ℕ → ℕ → Outcome (Vals J)) → Outcome (V × Vals K)
advance check K n m p none go = stop (fault WrongSign p)
advance check K n m p (some μ) go = admit (check n m μ.role) p (λ a b. mapped (make μ p K) (go (μ.rest ++ K) a b))

abbrev pub run : Check → ℕ → List Placed → (K : List Item) → ℕ → ℕ → Outcome (Vals K)
run check end [] [] n m = done tt
run check end [] (i ∷ K) n m = stop (fault WrongSign end)
run check end ((p, x) ∷ s) [] n m = stop (fault WrongSign p)
run check end ((p, x) ∷ s) (i ∷ K) n m = advance check K n m p (next i x) (run check end s)

-- the check passes these roles, and its counters go from n and m to a and b
abbrev pub Leads : Check → ℕ → ℕ → List Role → ℕ → ℕ → Type 0
Leads check n m [] a b = (n ≡ a) × (m ≡ b)
Leads check n m (ρ ∷ l) a b = (k : ℕ) × (j : ℕ) × (check n m ρ ≡ passes k j) × Leads check k j l a b

mapped_done : {A B : Type 0} (f : A → B) (o : Outcome A) (b : B) → mapped f o ≡ done b → (a : A) × (o ≡ done a) × (f a ≡ b)
mapped_done f (done a) b h = (a, refl, cc)
mapped_done f (stop r) b h = let z : ◌≡◌ {A = ℕ} 0 1 = cc in absurd (omega arith)

mapped_stop : {A B : Type 0} (f : A → B) (o : Outcome A) (r : Refusal) → mapped f o ≡ stop r → o ≡ stop r
mapped_stop f (done a) r h = let z : ◌≡◌ {A = ℕ} 0 1 = cc in absurd (omega arith)
mapped_stop f (stop q) r h = let e : q ≡ r = cc in ap stop e

stops : {A : Type 0} {B : Type 0} {r : Refusal} {a : A} → stop r ≡ done a → B
stops h = let z : ◌≡◌ {A = ℕ} 0 1 = cc in absurd (omega arith)

-- the predicted move, taken
pub record Taken (i : Item) (K : List Item) (vs : Vals (i ∷ K)) (p : ℕ) (x : Sign) (s : List Placed) (μ : Move (Val i)) : Type 0 where
  pub values : Vals (μ.rest ++ K)
  pub fills : Fills (μ.rest ++ K) values s
  pub makes : make μ p K values ≡ vs
  pub sorts : all_roles (i ∷ K) vs ≡ μ.role ∷ all_roles (μ.rest ++ K) values

take_move : (i : Item) (K : List Item) (vs : Vals (i ∷ K)) (p : ℕ) (x : Sign) (s : List Placed) (μ : Move (Val i)) → next i x ≡ some μ → Fills (i ∷ K) vs ((p, x) ∷ s) → Taken i K vs p x s μ
take_move i K vs p x s μ e f =
    let h = forwards i K vs p x s f in
    let same : some h.move ≡ some μ = sym h.predicted ∙ e in
    let t : Taken i K vs p x s h.move = record { values = h.values; fills = h.fills; makes = h.makes; sorts = ap (all_roles (i ∷ K)) (sym h.makes) ∙ (backwards i x h.move h.predicted).sorts p K h.values } in
    subst (Taken i K vs p x s) (let w : h.move ≡ μ = cc in w) t

-- one role for each sign
pub as_long : (s : List Placed) (K : List Item) (vs : Vals K) → Fills K vs s → length (all_roles K vs) ≡ length s
as_long [] [] vs f = refl
as_long [] (i ∷ K) vs f = absurd (not_empty i K vs f)
as_long ((p, x) ∷ s) [] vs f = let z : ◌≡◌ {A = ℕ} 0 1 = cc in absurd (omega arith)
as_long ((p, x) ∷ s) (i ∷ K) vs f =
    let h = forwards i K vs p x s f in
    let t = take_move i K vs p x s h.move h.predicted f in
    ap length t.sorts ∙ ap suc (as_long s (h.move.rest ++ K) t.values t.fills)

module _ (check : Check) (end : ℕ) where
  pub accepts : (s : List Placed) (K : List Item) (vs : Vals K) (n m a b : ℕ) → Fills K vs s → Leads check n m (all_roles K vs) a b → run check end s K n m ≡ done vs
  accepts [] [] vs n m a b f l = refl
  accepts [] (i ∷ K) vs n m a b f l = absurd (not_empty i K vs f)
  accepts ((p, x) ∷ s) [] vs n m a b f l = let z : ◌≡◌ {A = ℕ} 0 1 = cc in absurd (omega arith)
  accepts ((p, x) ∷ s) (i ∷ K) vs n m a b f l =
      let h = forwards i K vs p x s f in
      let μ = h.move in
      let t = take_move i K vs p x s μ h.predicted f in
      let c = subst (λ z. Leads check n m z a b) t.sorts l in
      let r = accepts s (μ.rest ++ K) t.values c.0 c.1 a b t.fills c.3 in
      ap (λ o. advance check K n m p o (run check end s)) h.predicted ∙ ap (λ o. admit o p (λ k j. mapped (make μ p K) (run check end s (μ.rest ++ K) k j))) c.2 ∙ ap (mapped (make μ p K)) r ∙ ap done t.makes

  pub record Accepted (s : List Placed) (K : List Item) (vs : Vals K) (n m : ℕ) : Type 0 where
    pub fills : Fills K vs s
    pub first : ℕ
    pub second : ℕ
    pub leads : Leads check n m (all_roles K vs) first second

  accepted_move : (i : Item) (K : List Item) (x : Sign) (vs : Vals (i ∷ K)) (n m p : ℕ) (s : List Placed) → ((J : List Item) (w : Vals J) (k j : ℕ) → run check end s J k j ≡ done w → Accepted s J w k j) → (o : Option (Move (Val i))) → next i x ≡ o → advance check K n m p o (run check end s) ≡ done vs → Accepted ((p, x) ∷ s) (i ∷ K) vs n m
  accepted_move i K x vs n m p s ih none e h = stops h
  accepted_move i K x vs n m p s ih (some μ) e h = by (check n m μ.role) refl h
    where
      by : (c : Checks) → check n m μ.role ≡ c → admit c p (λ k j. mapped (make μ p K) (run check end s (μ.rest ++ K) k j)) ≡ done vs → Accepted ((p, x) ∷ s) (i ∷ K) vs n m
      by (refuses g) c g₁ = stops g₁
      by (passes k j) c g₁ =
          let (w, r, v) = mapped_done (make μ p K) (run check end s (μ.rest ++ K) k j) vs g₁ in
          let a = ih (μ.rest ++ K) w k j r in
          let b = backwards i x μ e in
          let f : Accepted ((p, x) ∷ s) (i ∷ K) (make μ p K w) n m = record { fills = b.fills p K w s a.fills; first = a.first; second = a.second; leads = subst (λ z. Leads check n m z a.first a.second) (sym (b.sorts p K w)) (k, j, c, a.leads) } in
          subst (λ z. Accepted ((p, x) ∷ s) (i ∷ K) z n m) v f

  pub accepted : (s : List Placed) (K : List Item) (vs : Vals K) (n m : ℕ) → run check end s K n m ≡ done vs → Accepted s K vs n m
  accepted [] [] vs n m h = record { fills = refl; first = n; second = m; leads = (refl, refl) }
  accepted [] (i ∷ K) vs n m h = stops h
  accepted ((p, x) ∷ s) [] vs n m h = stops h
  accepted ((p, x) ∷ s) (i ∷ K) vs n m h = accepted_move i K x vs n m p s (accepted s) (next i x) refl h

  -- a sign that cannot stand, or the end too soon
  pub record Wrong (K : List Item) (front rest : List Placed) (f : Refusal) : Type 0 where
    pub fault : f.fault ≡ WrongSign
    pub place : f.place ≡ place_of_next end rest
    pub stuck : (y : List Placed) (vs : Vals K) → SameNext rest y → Fills K vs (front ++ y) → ⊥

  -- a sign whose role the check refuses
  pub record Limit (K : List Item) (front rest : List Placed) (trace : List Role) (a b : ℕ) (f : Refusal) : Type 0 where
    pub sign : Sign
    pub more : List Placed
    pub role : Role
    pub is : rest ≡ (f.place, sign) ∷ more
    pub refused : check a b role ≡ refuses f.fault
    pub goes : (y : List Placed) × (vs : Vals K) × Fills K vs (front ++ ((f.place, sign) ∷ y))
    pub traced : (q : ℕ) (y : List Placed) (vs : Vals K) → Fills K vs (front ++ ((q, sign) ∷ y)) → (l : List Role) × (all_roles K vs ≡ trace ++ (role ∷ l))

  -- where a run stops: the signs before have the roles in the trace, whatever they begin
  pub record Halted (s : List Placed) (K : List Item) (n m : ℕ) (f : Refusal) : Type 0 where
    pub front : List Placed
    pub rest : List Placed
    pub trace : List Role
    pub a : ℕ
    pub b : ℕ
    pub is : s ≡ front ++ rest
    pub long : length trace ≡ length front
    pub leads : Leads check n m trace a b
    pub goes : (y : List Placed) × (vs : Vals K) × Fills K vs (front ++ y)
    pub traced : (y : List Placed) (vs : Vals K) → Fills K vs (front ++ y) → (l : List Role) × (all_roles K vs ≡ trace ++ l)
    pub why : Wrong K front rest f ⊎ Limit K front rest trace a b f

  -- at once
  halted_here : (s : List Placed) (K : List Item) (n m : ℕ) (f : Refusal) → Wrong K [] s f ⊎ Limit K [] s [] n m f → Halted s K n m f
  halted_here s K n m f w = record { front = []; rest = s; trace = []; a = n; b = m; is = refl; long = refl; leads = (refl, refl); goes = fillable K; traced = λ y vs h. (all_roles K vs, refl); why = w }

  same_refusal : {A : Type 0} (s : List Placed) (K : List Item) (n m : ℕ) (g f : Refusal) → ◌≡◌ {A = Outcome A} (stop g) (stop f) → Halted s K n m g → Halted s K n m f
  same_refusal s K n m g f e h = subst (Halted s K n m) (let w : g ≡ f = cc in w) h

  -- after a move
  wrong_later : (i : Item) (K : List Item) (p : ℕ) (x : Sign) (μ : Move (Val i)) (front rest : List Placed) (f : Refusal) → next i x ≡ some μ → Wrong (μ.rest ++ K) front rest f → Wrong (i ∷ K) ((p, x) ∷ front) rest f
  wrong_later i K p x μ front rest f e w = record { fault = w.fault; place = w.place; stuck = λ y vs n h. let t = take_move i K vs p x (front ++ y) μ e h in w.stuck y t.values n t.fills }

  limit_later : (i : Item) (K : List Item) (p : ℕ) (x : Sign) (μ : Move (Val i)) (front rest : List Placed) (trace : List Role) (a b : ℕ) (f : Refusal) → next i x ≡ some μ → Limit (μ.rest ++ K) front rest trace a b f → Limit (i ∷ K) ((p, x) ∷ front) rest (μ.role ∷ trace) a b f
  limit_later i K p x μ front rest trace a b f e w = record {
    sign = w.sign;
    more = w.more;
    role = w.role;
    is = w.is;
    refused = w.refused;
    goes = (let g = w.goes in (g.0, make μ p K g.1, (backwards i x μ e).fills p K g.1 _ g.2));
    traced = λ q y vs h.
        let t = take_move i K vs p x (front ++ ((q, w.sign) ∷ y)) μ e h in
        let r = w.traced q y t.values t.fills in
        (r.0, t.sorts ∙ ap (λ z. μ.role ∷ z) r.1);
  }

  halted_later : (i : Item) (K : List Item) (p : ℕ) (x : Sign) (s : List Placed) (n m k j : ℕ) (f : Refusal) (μ : Move (Val i)) → next i x ≡ some μ → check n m μ.role ≡ passes k j → Halted s (μ.rest ++ K) k j f → Halted ((p, x) ∷ s) (i ∷ K) n m f
  halted_later i K p x s n m k j f μ e c h = record {
    front = (p, x) ∷ h.front;
    rest = h.rest;
    trace = μ.role ∷ h.trace;
    a = h.a;
    b = h.b;
    is = ap (λ z. (p, x) ∷ z) h.is;
    long = ap suc h.long;
    leads = (k, j, c, h.leads);
    goes = (let g = h.goes in (g.0, make μ p K g.1, (backwards i x μ e).fills p K g.1 (h.front ++ g.0) g.2));
    traced = λ y vs d.
        let t = take_move i K vs p x (h.front ++ y) μ e d in
        let r = h.traced y t.values t.fills in
        (r.0, t.sorts ∙ ap (λ z. μ.role ∷ z) r.1);
    why = elim h.why [ inl w ↦ inl (wrong_later i K p x μ h.front h.rest f e w) | inr w ↦ inr (limit_later i K p x μ h.front h.rest h.trace h.a h.b f e w) ];
  }

  unpredicted : (i : Item) (K : List Item) (p : ℕ) (x : Sign) (s : List Placed) → next i x ≡ none → Wrong (i ∷ K) [] ((p, x) ∷ s) (fault WrongSign p)
  unpredicted i K p x s e = record { fault = refl; place = refl; stuck = λ y vs n h. let a = forwards i K vs n.0 x n.1 (subst (Fills (i ∷ K) vs) n.2 h) in let c : none ≡ some a.move = sym e ∙ a.predicted in let z : ◌≡◌ {A = ℕ} 0 1 = cc in omega arith }

  refused_here : (i : Item) (K : List Item) (p : ℕ) (x : Sign) (s : List Placed) (n m : ℕ) (g : Fault) (μ : Move (Val i)) → next i x ≡ some μ → check n m μ.role ≡ refuses g → Limit (i ∷ K) [] ((p, x) ∷ s) [] n m (fault g p)
  refused_here i K p x s n m g μ e c = record {
    sign = x;
    more = s;
    role = μ.role;
    is = refl;
    refused = c;
    goes = (let v = fillable (μ.rest ++ K) in (v.0, make μ p K v.1, (backwards i x μ e).fills p K v.1 v.0 v.2));
    traced = λ q y vs h. let t = take_move i K vs q x y μ e h in (all_roles (μ.rest ++ K) t.values, t.sorts);
  }

  halted_move : (i : Item) (K : List Item) (x : Sign) (n m p : ℕ) (f : Refusal) (s : List Placed) → ((J : List Item) (k j : ℕ) → run check end s J k j ≡ stop f → Halted s J k j f) → (o : Option (Move (Val i))) → next i x ≡ o → advance check K n m p o (run check end s) ≡ stop f → Halted ((p, x) ∷ s) (i ∷ K) n m f
  halted_move i K x n m p f s ih none e h = same_refusal ((p, x) ∷ s) (i ∷ K) n m (fault WrongSign p) f h (halted_here ((p, x) ∷ s) (i ∷ K) n m (fault WrongSign p) (inl (unpredicted i K p x s e)))
  halted_move i K x n m p f s ih (some μ) e h = by (check n m μ.role) refl h
    where
      by : (c : Checks) → check n m μ.role ≡ c → admit c p (λ k j. mapped (make μ p K) (run check end s (μ.rest ++ K) k j)) ≡ stop f → Halted ((p, x) ∷ s) (i ∷ K) n m f
      by (refuses g) c r = same_refusal ((p, x) ∷ s) (i ∷ K) n m (fault g p) f r (halted_here ((p, x) ∷ s) (i ∷ K) n m (fault g p) (inr (refused_here i K p x s n m g μ e c)))
      by (passes k j) c r = halted_later i K p x s n m k j f μ e c (ih (μ.rest ++ K) k j (mapped_stop (make μ p K) (run check end s (μ.rest ++ K) k j) f r))

  pub halted : (s : List Placed) (f : Refusal) (K : List Item) (n m : ℕ) → run check end s K n m ≡ stop f → Halted s K n m f
  halted [] f [] n m h = stops (sym h)
  halted [] f (i ∷ K) n m h = same_refusal [] (i ∷ K) n m (fault WrongSign end) f h (halted_here [] (i ∷ K) n m (fault WrongSign end) (inl (record { fault = refl; place = refl; stuck = λ y vs e g. not_empty i K vs (subst (Fills (i ∷ K) vs) e g) })))
  halted ((p, x) ∷ s) f [] n m h = same_refusal ((p, x) ∷ s) [] n m (fault WrongSign p) f h (halted_here ((p, x) ∷ s) [] n m (fault WrongSign p) (inl (record { fault = refl; place = refl; stuck = λ y vs e g. let c : (e.0, x) ∷ e.1 ≡ [] = sym e.2 ∙ g in let z : ◌≡◌ {A = ℕ} 0 1 = cc in omega arith })))
  halted ((p, x) ∷ s) f (i ∷ K) n m h = halted_move i K x n m p f s (halted s f) (next i x) refl h
