-- Each construct: what its parts ask for, and what its rule answers.
use Rattle.std.proofs.Common.{◌≡◌, ℕ, suc, ◌+◌, ◌<◌, ◌≤◌, List, [], ◌∷◌, ◌++◌, length, get_or, Ok, Err, Result, sym, refl, ap, ◌∙◌, subst, append_assoc, append-nil, arith, length-append}
use Rattle.std.proofs.lemmas.List.{get_or_push, get_or_default}
use Rattle.calculus.specs.Types.{Ty, N, ◌⇒◌, ◌⊗◌}
use Rattle.calculus.specs.Terms.{subterms}
use Rattle.syntax.specs.Trees.{Tree, occ, num, succ, lam, app, pair, split, iter, erase}
use Rattle.syntax.specs.Program.{DenotesType, Denotes}
use Rattle.syntax.specs.declared.program.TypeCell.{TypeCell}
use Rattle.syntax.specs.declared.program.TypeCell.TheVariants as kind
use Rattle.syntax.specs.declared.program.Shape.{Shape}
use Rattle.syntax.specs.declared.program.Shape.TheVariants.{Variable, Number, Successor, Function, Application, Pair, Let, Iterator}
use Rattle.syntax.specs.declared.program.Subterm.{Subterm}
use Rattle.syntax.specs.declared.refusal.Refusal.{Refusal}
use Rattle.language.specs.declared.checker.Checker.{Checker}
use Rattle.language.specs.declared.context.Hypothesis.{Hypothesis}
use Rattle.language.specs.Infer.{Checked, good, bad, then, within, succ_rule, app_rule, iter_rule, infer, Env, put}
use Rattle.language.specs.Measures.{type_room, IsType}
use Rattle.language.specs.Judgements.{Judgement, judge, judgements, type_of, first, second}
use Rattle.language.specs.Hypotheses.{cell_of}
use Rattle.language.specs.Checks.{cells_of, context_of, Knows, Gives, Splits, Ready, ReadyAs, Outcome, Checks, Ruled, Infers}
use Rattle.language.proofs.Cells.{inside, denotes_more}
use Rattle.language.proofs.Shapes.{blank, Shaped, shaped, Two, Lambda, Split}
use Rattle.language.proofs.Inferring.{judged_all, occ_at, num_at, succ_at, lam_at, app_at, pair_at, split_at, split_body, iter_at}
use Rattle.language.proofs.Walk.{types-last, trees_last, knows_last, Sofar, nothing_yet, of_typed, and_then, Extended, extended, Bound, Released, under, knows_more, knows_under, type_space, context_space, context_so_far, ready_next, ready_under, inside_of, ruled}

-- two hypotheses, one after another
pub both_bound : (a b c : List Hypothesis) (x y : Hypothesis) → b ≡ a ++ (x ∷ []) → c ≡ b ++ (y ∷ []) → c ≡ a ++ (x ∷ (y ∷ []))
both_bound a b c x y e f = f ∙ (ap (λ hs. hs ++ (y ∷ [])) e ∙ append_assoc a (x ∷ []) (y ∷ []))

-- the new cell of a function or a pair type
arrow_cell : (cells cells' : List TypeCell) (n p q : ℕ) (A B : Ty) → cells' ≡ cells ++ (kind.Arrow p q ∷ []) → n ≡ length cells → DenotesType cells p A → DenotesType cells q B → DenotesType cells' n (A ⇒ B)
arrow_cell cells cells' n p q A B e l d f =
    subst (λ cs. DenotesType cs n (A ⇒ B)) (sym e) (p, q, omega (arith, length-append cells (kind.Arrow p q ∷ [])), get_or_push cells (kind.Arrow p q) kind.N n (sym l), omega (arith, inside A cells p d), omega (arith, inside B cells q f), denotes_more A cells (kind.Arrow p q ∷ []) p d, denotes_more B cells (kind.Arrow p q ∷ []) q f)

pub product_cell : (cells cells' : List TypeCell) (n p q : ℕ) (A B : Ty) → cells' ≡ cells ++ (kind.Product p q ∷ []) → n ≡ length cells → DenotesType cells p A → DenotesType cells q B → DenotesType cells' n (A ⊗ B)
product_cell cells cells' n p q A B e l d f =
    subst (λ cs. DenotesType cs n (A ⊗ B)) (sym e) (p, q, omega (arith, length-append cells (kind.Product p q ∷ [])), get_or_push cells (kind.Product p q) kind.N n (sym l), omega (arith, inside A cells p d), omega (arith, inside B cells q f), denotes_more A cells (kind.Product p q ∷ []) p d, denotes_more B cells (kind.Product p q ∷ []) q f)

-- sub-term i has this place and shape, and can be checked
pub record Met (subs : List Subterm) (i : ℕ) (m : Checker) (p : ℕ) (s : Shape) : Type 0 where
  pub at : get_or subs i blank ≡ record { place = p; shape = s }
  pub ready : Ready subs i m

pub met : {subs : List Subterm} {i : ℕ} {m : Checker} {s : Shape} (d : Subterm) → Ready subs i m → (get_or subs i d).shape ≡ s → Met subs i m (get_or subs i d).place s
met {subs} {i} d r e = record { at = get_or_default subs i blank d (inside_of r) ∙ (λ k. record { place = (get_or subs i d).place; shape = e k }); ready = r }

-- from what was read, with whatever default, to what a construct's function asks, and back
pub ready_as : {subs : List Subterm} {i : ℕ} {m : Checker} {s : Shape} (d : Subterm) → Ready subs i m → (get_or subs i d).shape ≡ s → ReadyAs subs i m s
ready_as {subs} {i} d r e = record { shape = ap (λ y. y.shape) (get_or_default subs i blank d (inside_of r)) ∙ e; ready = r }

pub met_as : {subs : List Subterm} {i : ℕ} {m : Checker} {s : Shape} (d : Subterm) → ReadyAs subs i m s → Met subs i m (get_or subs i d).place s
met_as {subs} {i} d h = met d h.ready (ap (λ y. y.shape) (sym (get_or_default subs i blank d (inside_of h.ready))) ∙ h.shape)

-- a part that is checked after others
next_part : {subs : List Subterm} {n k : ℕ} {js : List Judgement} {m₀ m m' : Checker} {r : Result ℕ Refusal} → Sofar subs n js m₀ m → Checks subs k m m' r → (b : Tree ℕ) → Denotes subs (cells_of m₀) k b → (e : Env) → Knows (cells_of m₀) m₀.number (context_of m₀) e → Outcome subs b e m m' r
next_part {subs = subs} {k = k} f h b d e kn = h.outcome b e (trees_last f.grown subs b k d) (knows_last f.grown e kn)

size : (t u : Tree ℕ) → t ≡ u → subterms (erase t) ≡ subterms (erase u)
size t u e = ap (λ v. subterms (erase v)) e

module _ {subs : List Subterm} {i : ℕ} {m₀ : Checker} where
  abbrev first_ready : (r : Ready subs i m₀) (j : ℕ) (a : Tree ℕ) → Denotes subs (cells_of m₀) j a → subterms (erase a) ≤ subterms (erase r.tree) → Ready subs j m₀
  first_ready r j a d h = ready_next subs i m₀ r 0 [] m₀ (nothing_yet subs m₀) j a d (omega arith) (omega arith)

-- a fault of a part is that of the whole
stops : (t u : Tree ℕ) (e : Env) (z : Refusal) → t ≡ u → infer e u ≡ bad z.fault z.place → infer e t ≡ bad z.fault z.place
stops t u e z is h = ap (infer e) is ∙ h

module _ {subs : List Subterm} {i : ℕ} {m₀ : Checker} {p : ℕ} where
  -- the tree by its shape
  pub tree : {s : Shape} → Met subs i m₀ p s → (t : Tree ℕ) → Denotes subs (cells_of m₀) i t → Shaped subs (cells_of m₀) i p s t
  tree {s} h t d = shaped subs (cells_of m₀) i t (record { place = p; shape = s }) h.at d

  -- what its rule answers, for the place that is read
  infers : {m : Checker} {r : Result ℕ Refusal} → (get_or subs i blank).place ≡ p → ((t : Tree ℕ) (e : Env) → Denotes subs (cells_of m₀) i t → Knows (cells_of m₀) m₀.number (context_of m₀) e → Ruled subs p t e m₀ m r) → Infers subs i m₀ m r
  infers {m = m} {r = r} h f = record { outcome = λ t e d k. subst (λ q. Ruled subs q t e m₀ m r) (sym h) (f t e d k) }

  pub at_place : {s : Shape} → Met subs i m₀ p s → (get_or subs i blank).place ≡ p
  at_place h = ap (λ y. y.place) h.at

  -- variables and numbers
  pub var_done : {v : ℕ} (c : ℕ) → Met subs i m₀ p (Variable v) → c ≡ cell_of m₀.number (context_of m₀) v → Infers subs i m₀ m₀ (Ok c)
  var_done {v} c h q =
      infers (at_place h) (λ t e d kn. ruled p t (occ p v) e (Ok c) (within p (e v)) (tree h t d) (occ_at e p v) (e v, subst (λ n. DenotesType (cells_of m₀) n (e v)) (sym q) (kn v), refl) (nothing_yet subs m₀) (omega arith) refl)

  pub num_done : {n : ℕ} → Met subs i m₀ p (Number n) → Infers subs i m₀ m₀ (Ok m₀.number)
  num_done {n} h =
      infers (at_place h) (λ t e d kn. ruled p t (num p n) e (Ok m₀.number) (within p N) (tree h t d) (num_at e p n) (N, h.ready.numbered, refl) (nothing_yet subs m₀) (omega arith) refl)

  -- successors
  module _ {j : ℕ} (here : Met subs i m₀ p (Successor j)) where
    pub succ_ready : (j < i) × Ready subs j m₀
    succ_ready =
        let r = here.ready in
        let w = tree here r.tree r.denotes in
        (w.less, first_ready r j w.a w.part (omega (arith, size r.tree (succ p w.a) w.is)))

    pub succ_stop : {m₁ : Checker} {z : Refusal} → Checks subs j m₀ m₁ (Err z) → Infers subs i m₀ m₁ (Err z)
    succ_stop h =
        infers (at_place here) (λ t e d kn.
        let w = tree here t d in
        stops t (succ p w.a) e _ w.is (succ_at e p w.a _ (h.outcome w.a e w.part kn)))

    module _ {m₁ : Checker} {f : ℕ} (h : Checks subs j m₀ m₁ (Ok f)) where
      pub succ_asks : IsType (cells_of m₁) f
      succ_asks = let r = here.ready in let w = tree here r.tree r.denotes in (_, (h.outcome w.a r.env w.part r.knows).denotes)

      pub succ_done : {r : Result ℕ Refusal} → ((A : Ty) → DenotesType (cells_of m₁) f A → Gives (cells_of m₁) p (succ_rule p A) r) → Infers subs i m₀ m₁ r
      succ_done {r} gives =
          infers (at_place here) (λ t e d kn.
          let w = tree here t d in
          let one = h.outcome w.a e w.part kn in
          ruled p t (succ p w.a) e r (succ_rule p (type_of e w.a)) w.is (succ_at e p w.a _ one.infers) (gives _ one.denotes) (of_typed one) (omega arith) refl)

-- two parts: applications and pairs, which differ in the rule alone
pub record Doubled (subs : List Subterm) (i : ℕ) (m₀ : Checker) (p j k : ℕ) : Type 0 where
  pub ready : Ready subs i m₀
  pub placed : (get_or subs i blank).place ≡ p
  pub how : Tree ℕ → Tree ℕ → Tree ℕ
  pub rule : Ty → Ty → Checked
  pub parts : (t : Tree ℕ) → Denotes subs (cells_of m₀) i t → Two subs (cells_of m₀) i j k how t
  pub sizes : (a b : Tree ℕ) → subterms (erase (how a b)) ≡ suc (subterms (erase a) + subterms (erase b))
  pub answers : (e : Env) (a b : Tree ℕ) (y z : Checked) → infer e a ≡ y → infer e b ≡ z → infer e (how a b) ≡ then y (λ A. then z (rule A))
  pub judges : (e : Env) (a b : Tree ℕ) → judgements e (how a b) ≡ judgements e a ++ (judgements e b ++ (judge e (how a b) ∷ []))

module _ {subs : List Subterm} {i : ℕ} {m₀ : Checker} {p j k : ℕ} where
  abbrev pub application : Met subs i m₀ p (Application j k) → Doubled subs i m₀ p j k
  application h = record { ready = h.ready; placed = at_place h; how = app p; rule = app_rule p; parts = tree h; sizes = λ _ _. refl; answers = λ e a b. app_at e p a b; judges = λ _ _ _. refl }

  abbrev pub pair_of : Met subs i m₀ p (Pair j k) → Doubled subs i m₀ p j k
  pair_of h = record { ready = h.ready; placed = at_place h; how = pair p; rule = λ A B. within p (A ⊗ B); parts = tree h; sizes = λ _ _. refl; answers = λ e a b. pair_at e p a b; judges = λ _ _ _. refl }

  module _ (two : Doubled subs i m₀ p j k) where
    two_size : let w = two.parts two.ready.tree two.ready.denotes in subterms (erase two.ready.tree) ≡ suc (subterms (erase w.a) + subterms (erase w.b))
    two_size = let w = two.parts two.ready.tree two.ready.denotes in size two.ready.tree (two.how w.a w.b) w.is ∙ two.sizes w.a w.b

    pub two_ready : (j < i) × Ready subs j m₀
    two_ready = let w = two.parts two.ready.tree two.ready.denotes in (w.less, first_ready two.ready j w.a w.part (omega (arith, two_size)))

    pub two_stop : {m₁ : Checker} {z : Refusal} → Checks subs j m₀ m₁ (Err z) → Infers subs i m₀ m₁ (Err z)
    two_stop h =
        infers two.placed (λ t e d kn.
        let w = two.parts t d in
        stops t (two.how w.a w.b) e _ w.is (two.answers e w.a w.b _ _ (h.outcome w.a e w.part kn) refl))

    module _ {m₁ : Checker} {f : ℕ} (h : Checks subs j m₀ m₁ (Ok f)) where
      pub two_next : (k < i) × Ready subs k m₁
      two_next =
          let r = two.ready in
          let w = two.parts r.tree r.denotes in
          let one = h.outcome w.a r.env w.part r.knows in
          (w.less', ready_next subs i m₀ r _ _ m₁ (of_typed one) k w.b w.part' (omega (arith, two_size)) (omega (arith, judged_all r.env w.a, two_size)))

      pub two_stop' : {m₂ : Checker} {z : Refusal} → Checks subs k m₁ m₂ (Err z) → Infers subs i m₀ m₂ (Err z)
      two_stop' g =
          infers two.placed (λ t e d kn.
          let w = two.parts t d in
          let one = h.outcome w.a e w.part kn in
          stops t (two.how w.a w.b) e _ w.is (two.answers e w.a w.b _ _ one.infers (next_part (of_typed one) g w.b w.part' e kn)))

      module _ {m₂ : Checker} {g : ℕ} (h' : Checks subs k m₁ m₂ (Ok g)) where
        -- both parts, with their types
        record Both (t : Tree ℕ) (e : Env) : Type 0 where
          pub a : Tree ℕ
          pub b : Tree ℕ
          pub is : t ≡ two.how a b
          pub infers : infer e (two.how a b) ≡ two.rule (type_of e a) (type_of e b)
          pub left : DenotesType (cells_of m₂) f (type_of e a)
          pub right : DenotesType (cells_of m₂) g (type_of e b)
          pub added : Sofar subs (subterms (erase a) + subterms (erase b)) (judgements e a ++ judgements e b) m₀ m₂

        both : (t : Tree ℕ) (e : Env) → Denotes subs (cells_of m₀) i t → Knows (cells_of m₀) m₀.number (context_of m₀) e → Both t e
        both t e d kn =
            let w = two.parts t d in
            let one = h.outcome w.a e w.part kn in
            let other = next_part (of_typed one) h' w.b w.part' e kn in
            record {
              a = w.a;
              b = w.b;
              is = w.is;
              infers = two.answers e w.a w.b _ _ one.infers other.infers;
              left = types-last other.grown _ f one.denotes;
              right = other.denotes;
              added = and_then (of_typed one) (of_typed other);
            }

        pub record Asks : Type 0 where
          pub left : IsType (cells_of m₂) f
          pub right : IsType (cells_of m₂) g
          pub cell : length (cells_of m₂) < type_room

        pub two_asks : Asks
        two_asks =
            let r = two.ready in
            let w = both r.tree r.env r.denotes r.knows in
            let s = size r.tree (two.how w.a w.b) w.is ∙ two.sizes w.a w.b in
            record { left = (_, w.left); right = (_, w.right); cell = type_space subs i m₀ r _ _ m₂ w.added (omega arith) }

        -- the rule is asked at m, where at most one more cell stands
        pub two_done : {xs : List TypeCell} {m : Checker} {r : Result ℕ Refusal} → Extended xs m₂ m → length xs ≤ 1 → ((A B : Ty) → DenotesType (cells_of m₂) f A → DenotesType (cells_of m₂) g B → Gives (cells_of m) p (two.rule A B) r) → Infers subs i m₀ m r
        two_done {r = r} grow few gives =
            infers two.placed (λ t e d kn.
            let w = both t e d kn in
            let u = two.how w.a w.b in
            ruled p t u e r (two.rule (type_of e w.a) (type_of e w.b)) w.is w.infers (gives _ _ w.left w.right) (extended w.added grow) (omega (arith, two.sizes w.a w.b)) (two.judges e w.a w.b ∙ sym (append_assoc (judgements e w.a) (judgements e w.b) (judge e u ∷ []))))

-- iterators
module _ {subs : List Subterm} {i : ℕ} {m₀ : Checker} {p j k l : ℕ} (here : Met subs i m₀ p (Iterator j k l)) where
  three_size : let w = tree here here.ready.tree here.ready.denotes in subterms (erase here.ready.tree) ≡ suc (subterms (erase w.a) + (subterms (erase w.b) + subterms (erase w.c)))
  three_size = let w = tree here here.ready.tree here.ready.denotes in size here.ready.tree (iter p w.a w.b w.c) w.is

  pub iter_ready : (j < i) × Ready subs j m₀
  iter_ready = let w = tree here here.ready.tree here.ready.denotes in (w.less, first_ready here.ready j w.a w.part (omega (arith, three_size)))

  pub iter_stop : {m₁ : Checker} {z : Refusal} → Checks subs j m₀ m₁ (Err z) → Infers subs i m₀ m₁ (Err z)
  iter_stop h =
      infers (at_place here) (λ t e d kn.
      let w = tree here t d in
      stops t (iter p w.a w.b w.c) e _ w.is (iter_at e p w.a w.b w.c _ _ _ (h.outcome w.a e w.part kn) refl refl))

  module _ {m₁ : Checker} {f : ℕ} (h : Checks subs j m₀ m₁ (Ok f)) where
    pub iter_next : (k < i) × Ready subs k m₁
    iter_next =
        let r = here.ready in
        let w = tree here r.tree r.denotes in
        let one = h.outcome w.a r.env w.part r.knows in
        (w.less', ready_next subs i m₀ r _ _ m₁ (of_typed one) k w.b w.part' (omega (arith, three_size)) (omega (arith, judged_all r.env w.a, three_size)))

    pub iter_stop' : {m₂ : Checker} {z : Refusal} → Checks subs k m₁ m₂ (Err z) → Infers subs i m₀ m₂ (Err z)
    iter_stop' g =
        infers (at_place here) (λ t e d kn.
        let w = tree here t d in
        let one = h.outcome w.a e w.part kn in
        stops t (iter p w.a w.b w.c) e _ w.is (iter_at e p w.a w.b w.c _ _ _ one.infers (next_part (of_typed one) g w.b w.part' e kn) refl))

    module _ {m₂ : Checker} {g : ℕ} (h' : Checks subs k m₁ m₂ (Ok g)) where
      pub iter_next' : (l < i) × Ready subs l m₂
      iter_next' =
          let r = here.ready in
          let w = tree here r.tree r.denotes in
          let one = h.outcome w.a r.env w.part r.knows in
          let two = next_part (of_typed one) h' w.b w.part' r.env r.knows in
          (w.less'', ready_next subs i m₀ r _ _ m₂ (and_then (of_typed one) (of_typed two)) l w.c w.part'' (omega (arith, three_size)) (simp length-append (omega (arith, judged_all r.env w.a, judged_all r.env w.b, three_size))))

      pub iter_stop'' : {m₃ : Checker} {z : Refusal} → Checks subs l m₂ m₃ (Err z) → Infers subs i m₀ m₃ (Err z)
      iter_stop'' q =
          infers (at_place here) (λ t e d kn.
          let w = tree here t d in
          let one = h.outcome w.a e w.part kn in
          let two = next_part (of_typed one) h' w.b w.part' e kn in
          stops t (iter p w.a w.b w.c) e _ w.is (iter_at e p w.a w.b w.c _ _ _ one.infers two.infers (next_part (and_then (of_typed one) (of_typed two)) q w.c w.part'' e kn)))

      module _ {m₃ : Checker} {q : ℕ} (h'' : Checks subs l m₂ m₃ (Ok q)) where
        -- the three parts, with their types
        record Each (t : Tree ℕ) (e : Env) : Type 0 where
          pub a : Tree ℕ
          pub b : Tree ℕ
          pub c : Tree ℕ
          pub is : t ≡ iter p a b c
          pub infers : infer e (iter p a b c) ≡ iter_rule p (type_of e a) (type_of e b) (type_of e c)
          pub count : DenotesType (cells_of m₃) f (type_of e a)
          pub step : DenotesType (cells_of m₃) g (type_of e b)
          pub base : DenotesType (cells_of m₃) q (type_of e c)
          pub added : Sofar subs ((subterms (erase a) + subterms (erase b)) + subterms (erase c)) ((judgements e a ++ judgements e b) ++ judgements e c) m₀ m₃

        each : (t : Tree ℕ) (e : Env) → Denotes subs (cells_of m₀) i t → Knows (cells_of m₀) m₀.number (context_of m₀) e → Each t e
        each t e d kn =
            let w = tree here t d in
            let one = h.outcome w.a e w.part kn in
            let two = next_part (of_typed one) h' w.b w.part' e kn in
            let last = next_part (and_then (of_typed one) (of_typed two)) h'' w.c w.part'' e kn in
            record {
              a = w.a;
              b = w.b;
              c = w.c;
              is = w.is;
              infers = iter_at e p w.a w.b w.c _ _ _ one.infers two.infers last.infers;
              count = types-last last.grown _ f (types-last two.grown _ f one.denotes);
              step = types-last last.grown _ g two.denotes;
              base = last.denotes;
              added = and_then (and_then (of_typed one) (of_typed two)) (of_typed last);
            }

        pub record Asked : Type 0 where
          pub count : IsType (cells_of m₃) f
          pub step : IsType (cells_of m₃) g
          pub base : IsType (cells_of m₃) q

        pub iter_asks : Asked
        iter_asks = let r = here.ready in let w = each r.tree r.env r.denotes r.knows in record { count = (_, w.count); step = (_, w.step); base = (_, w.base) }

        pub iter_done : {r : Result ℕ Refusal} → ((A F C : Ty) → DenotesType (cells_of m₃) f A → DenotesType (cells_of m₃) g F → DenotesType (cells_of m₃) q C → Gives (cells_of m₃) p (iter_rule p A F C) r) → Infers subs i m₀ m₃ r
        iter_done {r} gives =
            infers (at_place here) (λ t e d kn.
            let w = each t e d kn in
            let u = iter p w.a w.b w.c in
            let ja = judgements e w.a in
            let jb = judgements e w.b in
            let jc = judgements e w.c in
            ruled p t u e r (iter_rule p (type_of e w.a) (type_of e w.b) (type_of e w.c)) w.is w.infers (gives _ _ _ w.count w.step w.base) w.added (omega arith) (sym (append_assoc (ja ++ jb) jc (judge e u ∷ []) ∙ append_assoc ja jb (jc ++ (judge e u ∷ [])))))

-- functions
module _ {subs : List Subterm} {i : ℕ} {m₀ : Checker} {p v c j : ℕ} (here : Met subs i m₀ p (Function v c j)) where
  lam_size : subterms (erase here.ready.tree) ≡ suc (subterms (erase (tree here here.ready.tree here.ready.denotes).a))
  lam_size = let w = tree here here.ready.tree here.ready.denotes in size here.ready.tree (lam p w.binder w.annotation w.a) w.is

  pub lam_less : j < i
  lam_less = (tree here here.ready.tree here.ready.denotes).less

  pub lam_space : length (context_of m₀) < 4096
  lam_space = let r = here.ready in omega (arith, context_space subs i m₀ r 0 [] m₀ (nothing_yet subs m₀) 1 (omega (arith, lam_size)))

  -- the context under which the body is checked
  body_knows : (t : Tree ℕ) (e : Env) → (w : Lambda subs (cells_of m₀) i p v c j t) → Knows (cells_of m₀) m₀.number (context_of m₀) e → Knows (cells_of m₀) m₀.number (context_of m₀ ++ (record { binder = v; cell = c } ∷ [])) (put e w.binder.place w.annotation)
  body_knows t e w kn = knows_more (cells_of m₀) m₀.number (context_of m₀) (record { binder = v; cell = c }) e w.annotation w.binder.place w.bound kn w.type

  module _ {b : Checker} where
    pub lam_ready : Bound (record { binder = v; cell = c } ∷ []) m₀ b → Ready subs j b
    lam_ready bound =
        let r = here.ready in
        let w = tree here r.tree r.denotes in
        let r' = first_ready r j w.a w.part (omega (arith, lam_size)) in
        ready_under _ r' bound (body_knows r.tree r.env w r.knows) (omega (arith, r.context_room, lam_size))

    body : {b' : Checker} {r : Result ℕ Refusal} → Checks subs j b b' r → Bound (record { binder = v; cell = c } ∷ []) m₀ b → (t : Tree ℕ) (e : Env) → (w : Lambda subs (cells_of m₀) i p v c j t) → Knows (cells_of m₀) m₀.number (context_of m₀) e → Outcome subs w.a (put e w.binder.place w.annotation) b b' r
    body h bound t e w kn = h.outcome w.a (put e w.binder.place w.annotation) (subst (λ cs. Denotes subs cs j w.a) (sym bound.types) w.part) (knows_under _ bound (body_knows t e w kn))

    pub lam_stop : {b' : Checker} {z : Refusal} → Checks subs j b b' (Err z) → Bound (record { binder = v; cell = c } ∷ []) m₀ b → Infers subs i m₀ b' (Err z)
    lam_stop h bound =
        infers (at_place here) (λ t e d kn.
        let w = tree here t d in
        stops t (lam p w.binder w.annotation w.a) e _ w.is (lam_at e p w.binder w.annotation w.a _ (body h bound t e w kn)))

    module _ {b' : Checker} {f : ℕ} (h : Checks subs j b b' (Ok f)) (bound : Bound (record { binder = v; cell = c } ∷ []) m₀ b) where
      pub lam_room : length (cells_of b') < type_room
      lam_room =
          let r = here.ready in
          let g = (body h bound r.tree r.env (tree here r.tree r.denotes) r.knows).grown in
          omega (arith, g.few, simp length-append at (ap length g.cells), ap length bound.types, r.types_room, lam_size)

      pub lam_done : {n a : ℕ} {m : Checker} → n ≡ length (context_of m₀) → a ≡ length (cells_of b') → Released n (kind.Arrow c f ∷ []) b' m → Infers subs i m₀ m (Ok a)
      lam_done {n} {a} {m} before place released =
          infers (at_place here) (λ t e d kn.
          let w = tree here t d in
          let o = body h bound t e w kn in
          let U = type_of (put e w.binder.place w.annotation) w.a in
          let T : DenotesType (cells_of b') c w.annotation = types-last o.grown w.annotation c (subst (λ cs. DenotesType cs c w.annotation) (sym bound.types) w.type) in
          ruled p t (lam p w.binder w.annotation w.a) e (Ok a) (within p (w.annotation ⇒ U)) w.is (lam_at e p w.binder w.annotation w.a _ o.infers) (w.annotation ⇒ U, arrow_cell (cells_of b') (cells_of m) a c f w.annotation U released.cells place T o.denotes, refl) (under bound (of_typed o) before released) (omega arith) refl)

-- lets
module _ {subs : List Subterm} {i : ℕ} {m₀ : Checker} {p v v' j k : ℕ} (here : Met subs i m₀ p (Let v v' j k)) where
  split_size : let w = tree here here.ready.tree here.ready.denotes in subterms (erase here.ready.tree) ≡ suc (subterms (erase w.a) + subterms (erase w.b))
  split_size = let w = tree here here.ready.tree here.ready.denotes in size here.ready.tree (split p w.binder w.binder' w.a w.b) w.is

  pub let_ready : (j < i) × Ready subs j m₀
  let_ready = let w = tree here here.ready.tree here.ready.denotes in (w.less, first_ready here.ready j w.a w.part (omega (arith, split_size)))

  pub let_less : k < i
  let_less = (tree here here.ready.tree here.ready.denotes).less'

  pub let_stop : {m₁ : Checker} {z : Refusal} → Checks subs j m₀ m₁ (Err z) → Infers subs i m₀ m₁ (Err z)
  let_stop h =
      infers (at_place here) (λ t e d kn.
      let w = tree here t d in
      stops t (split p w.binder w.binder' w.a w.b) e _ w.is (split_at e p w.binder w.binder' w.a w.b _ (h.outcome w.a e w.part kn)))

  module _ {m₁ : Checker} {f : ℕ} (h : Checks subs j m₀ m₁ (Ok f)) where
    pub let_asks : IsType (cells_of m₁) f
    let_asks = let r = here.ready in let w = tree here r.tree r.denotes in (_, (h.outcome w.a r.env w.part r.knows).denotes)

    pub let_stop' : {z : Refusal} → ((A : Ty) → DenotesType (cells_of m₁) f A → Splits (cells_of m₁) p A (Err z)) → Infers subs i m₀ m₁ (Err z)
    let_stop' no_pair =
        infers (at_place here) (λ t e d kn.
        let w = tree here t d in
        let one = h.outcome w.a e w.part kn in
        stops t (split p w.binder w.binder' w.a w.b) e _ w.is (split_at e p w.binder w.binder' w.a w.b _ one.infers ∙ no_pair (type_of e w.a) one.denotes _))

    pub let_space : length (context_of m₁) + 1 < 4096
    let_space =
        let r = here.ready in
        let w = tree here r.tree r.denotes in
        context_space subs i m₀ r _ _ m₁ (of_typed (h.outcome w.a r.env w.part r.knows)) 1 (omega (arith, split_size))

    module _ {left right : ℕ} (splits : (A : Ty) → DenotesType (cells_of m₁) f A → Splits (cells_of m₁) p A (Ok (left, right))) where
      -- the pair has a pair type, and both cells stand for its parts
      record Parted (A : Ty) : Type 0 where
        pub pairs : A ≡ first A ⊗ second A
        pub one : DenotesType (cells_of m₁) left (first A)
        pub other : DenotesType (cells_of m₁) right (second A)

      parted : (A : Ty) → DenotesType (cells_of m₁) f A → Parted A
      parted A d =
          let s = splits A d in
          record {
            pairs = s.2 ∙ sym (ap (λ T. first T ⊗ second T) s.2);
            one = subst (DenotesType (cells_of m₁) left) (sym (ap first s.2)) s.3;
            other = subst (DenotesType (cells_of m₁) right) (sym (ap second s.2)) s.4;
          }

      abbrev env : (t : Tree ℕ) → Split subs (cells_of m₀) i p v v' j k t → Env → Env
      env t w e = put (put e w.binder.place (first (type_of e w.a))) w.binder'.place (second (type_of e w.a))

      -- the context under which the body is checked
      let_knows : (t : Tree ℕ) (e : Env) → (w : Split subs (cells_of m₀) i p v v' j k t) → Knows (cells_of m₀) m₀.number (context_of m₀) e → Knows (cells_of m₁) m₁.number (context_of m₁ ++ (record { binder = v; cell = left } ∷ (record { binder = v'; cell = right } ∷ []))) (env t w e)
      let_knows t e w kn =
          let one = h.outcome w.a e w.part kn in
          let q = parted (type_of e w.a) one.denotes in
          let A = first (type_of e w.a) in
          let kn₁ = knows_more (cells_of m₁) m₁.number (context_of m₁) (record { binder = v; cell = left }) e A w.binder.place w.bound (knows_last one.grown e kn) q.one in
          subst (λ hs. Knows (cells_of m₁) m₁.number hs (env t w e)) (append_assoc (context_of m₁) (record { binder = v; cell = left } ∷ []) (record { binder = v'; cell = right } ∷ [])) (knows_more (cells_of m₁) m₁.number (context_of m₁ ++ (record { binder = v; cell = left } ∷ [])) (record { binder = v'; cell = right }) (put e w.binder.place A) (second (type_of e w.a)) w.binder'.place w.bound' kn₁ q.other)

      pair_infers : (t : Tree ℕ) (e : Env) (w : Split subs (cells_of m₀) i p v v' j k t) → Knows (cells_of m₀) m₀.number (context_of m₀) e → infer e w.a ≡ good (first (type_of e w.a) ⊗ second (type_of e w.a))
      pair_infers t e w kn = let one = h.outcome w.a e w.part kn in one.infers ∙ ap good (parted (type_of e w.a) one.denotes).pairs

      module _ {b : Checker} where
        pub let_next : Bound (record { binder = v; cell = left } ∷ (record { binder = v'; cell = right } ∷ [])) m₁ b → Ready subs k b
        let_next bound =
            let r = here.ready in
            let w = tree here r.tree r.denotes in
            let s = of_typed (h.outcome w.a r.env w.part r.knows) in
            let r' = ready_next subs i m₀ r _ _ m₁ s k w.b w.part' (omega (arith, split_size)) (omega (arith, judged_all r.env w.a, split_size)) in
            ready_under _ r' bound (let_knows r.tree r.env w r.knows) (omega (arith, context_so_far subs i m₀ r _ _ m₁ s, r.context_room, split_size))

        let_body : {b' : Checker} {r : Result ℕ Refusal} → Checks subs k b b' r → Bound (record { binder = v; cell = left } ∷ (record { binder = v'; cell = right } ∷ [])) m₁ b → (t : Tree ℕ) (e : Env) → (w : Split subs (cells_of m₀) i p v v' j k t) → Knows (cells_of m₀) m₀.number (context_of m₀) e → Outcome subs w.b (env t w e) b b' r
        let_body g bound t e w kn =
            g.outcome w.b (env t w e) (subst (λ cs. Denotes subs cs k w.b) (sym bound.types) (trees_last (h.outcome w.a e w.part kn).grown subs w.b k w.part')) (knows_under _ bound (let_knows t e w kn))

        pub let_stop'' : {b' : Checker} {z : Refusal} → Checks subs k b b' (Err z) → Bound (record { binder = v; cell = left } ∷ (record { binder = v'; cell = right } ∷ [])) m₁ b → Infers subs i m₀ b' (Err z)
        let_stop'' g bound =
            infers (at_place here) (λ t e d kn.
            let w = tree here t d in
            stops t (split p w.binder w.binder' w.a w.b) e _ w.is (split_body e p w.binder w.binder' w.a w.b _ _ _ (pair_infers t e w kn) (let_body g bound t e w kn)))

        pub let_done : {b' m : Checker} {n c : ℕ} → Checks subs k b b' (Ok c) → Bound (record { binder = v; cell = left } ∷ (record { binder = v'; cell = right } ∷ [])) m₁ b → n ≡ length (context_of m₁) → Released n [] b' m → Infers subs i m₀ m (Ok c)
        let_done {b'} {m} {n} {c} g bound before released =
            infers (at_place here) (λ t e d kn.
            let w = tree here t d in
            let u = split p w.binder w.binder' w.a w.b in
            let o = let_body g bound t e w kn in
            let T = type_of (env t w e) w.b in
            let last : DenotesType (cells_of m) c T = subst (λ cs. DenotesType cs c T) (sym (released.cells ∙ append-nil (cells_of b'))) o.denotes in
            ruled p t u e (Ok c) (within p T) w.is (split_body e p w.binder w.binder' w.a w.b _ _ _ (pair_infers t e w kn) o.infers) (T, last, refl) (and_then (of_typed (h.outcome w.a e w.part kn)) (under bound (of_typed o) before released)) (omega arith) (sym (append_assoc (judgements e w.a) (judgements (env t w e) w.b) (judge e u ∷ []))))
