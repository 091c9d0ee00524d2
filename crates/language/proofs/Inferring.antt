-- The inferred type is the type that a tree has, and each sub-term is judged once.
use Rattle.std.proofs.Common.{◌≡◌, ℕ, ◌≤◌, Bool, true, false, cond, ◌&&◌, leb, List, [], ◌∷◌, ◌++◌, length, sym, refl, ap, ◌∙◌, subst, arith, length-append}
use Rattle.std.proofs.lemmas.Bool.Decides.{nat_tests}
use Rattle.calculus.specs.Types.{Ty, N, ◌⇒◌, ◌⊗◌, height}
use Rattle.calculus.specs.Terms.{subterms}
use Rattle.syntax.specs.Trees.{Binder, Tree, occ, num, succ, lam, app, pair, split, iter, erase}
use Rattle.syntax.specs.declared.refusal.Fault.{Fault}
use Rattle.syntax.specs.declared.refusal.Fault.TheVariants.{IllTyped, HighType}
use Rattle.language.specs.Infer.{Checked, good, bad, then, same, within, Env, put, succ_rule, app_rule, split_rule, iter_step, iter_rule, infer}
use Rattle.language.specs.Judgements.{Judgement, judge, type_of, result, first, second, judgements, Low}

pub judged_all : (e : Env) (t : Tree ℕ) → length (judgements e t) ≡ subterms (erase t)
judged_all e (occ p b) = refl
judged_all e (num p n) = refl
judged_all e (succ p t) = simp length-append (omega (arith, judged_all e t))
judged_all e (lam p x T t) = simp length-append (omega (arith, judged_all (put e x.place T) t))
judged_all e (app p t u) = simp length-append (omega (arith, judged_all e t, judged_all e u))
judged_all e (pair p t u) = simp length-append (omega (arith, judged_all e t, judged_all e u))
judged_all e (split p x y t u) = simp length-append (omega (arith, judged_all e t, judged_all (put (put e x.place (first (type_of e t))) y.place (second (type_of e t))) u))
judged_all e (iter p t u v) = simp length-append (omega (arith, judged_all e t, judged_all e u, judged_all e v))

-- a good answer is this type, and it is low
pub record Good (A B : Ty) : Type 0 where
  pub is : A ≡ B
  pub low : height A ≤ 64

never : {X : Type 0} (f : Fault) (p : ℕ) (A : Ty) → bad f p ≡ good A → X
never f p A h = let z : ◌≡◌ {A = ℕ} 0 1 = cc in absurd (omega arith)

low_within : (b : Bool) (p : ℕ) (A B : Ty) → leb (height A) 64 ≡ b → cond b (good A) (bad HighType p) ≡ good B → Good B A
low_within true p A B e h =
    let is : A ≡ B = cc in
    let low : height A ≤ 64 = grind (arith, nat_tests) in
    record { is = sym is; low = subst (λ T. height T ≤ 64) is low }
low_within false p A B e h = never HighType p B h

within_good : (p : ℕ) (A B : Ty) → within p A ≡ good B → Good B A
within_good p A B h = low_within (leb (height A) 64) p A B refl h

-- an answer that is good all the way
pub then_good : (x : Checked) (k : Ty → Checked) (B : Ty) → then x k ≡ good B → (A : Ty) × (x ≡ good A) × (k A ≡ good B)
then_good (good A) k B h = (A, refl, h)
then_good (bad f p) k B h = never f p B h

succ_good : (p : ℕ) (A B : Ty) → succ_rule p A ≡ good B → Good B N
succ_good p N B h = within_good p N B h
succ_good p (A ⇒ C) B h = never IllTyped p B h
succ_good p (A ⊗ C) B h = never IllTyped p B h

cond_good : (b : Bool) (p : ℕ) (x : Checked) (B : Ty) → cond b x (bad IllTyped p) ≡ good B → x ≡ good B
cond_good true p x B h = h
cond_good false p x B h = never IllTyped p B h

app_good : (p : ℕ) (F C B : Ty) → app_rule p F C ≡ good B → Good B (result F)
app_good p N C B h = never IllTyped p B h
app_good p (A ⇒ D) C B h = within_good p D B (cond_good (same A C) p (within p D) B h)
app_good p (A ⊗ D) C B h = never IllTyped p B h

split_good : (p : ℕ) (k : Ty → Ty → Checked) (P B : Ty) → split_rule p k P ≡ good B → k (first P) (second P) ≡ good B
split_good p k N B h = never IllTyped p B h
split_good p k (A ⇒ D) B h = never IllTyped p B h
split_good p k (A ⊗ D) B h = h

iter_step_good : (p : ℕ) (F C B : Ty) → iter_step p F C ≡ good B → Good B C
iter_step_good p N C B h = never IllTyped p B h
iter_step_good p (A ⇒ D) C B h = within_good p C B (cond_good (same A D && same A C) p (within p C) B h)
iter_step_good p (A ⊗ D) C B h = never IllTyped p B h

iter_good : (p : ℕ) (A F C B : Ty) → iter_rule p A F C ≡ good B → Good B C
iter_good p N F C B h = iter_step_good p F C B h
iter_good p (A ⇒ D) F C B h = never IllTyped p B h
iter_good p (A ⊗ D) F C B h = never IllTyped p B h

-- where a type is inferred, every sub-term has its own type, and none is too high
pub record Sound (e : Env) (t : Tree ℕ) (A : Ty) : Type 0 where
  pub is : A ≡ type_of e t
  pub low : Low (judgements e t)

low_append : (js ks : List Judgement) → Low js → Low ks → Low (js ++ ks)
low_append [] ks h g = g
low_append (j ∷ js) ks h g = (h.0, low_append js ks h.1 g)

low_one : (e : Env) (t : Tree ℕ) (A B : Ty) → Good A B → B ≡ type_of e t → Low (judge e t ∷ [])
low_one e t A B g q = (subst (λ T. height T ≤ 64) (g.is ∙ q) g.low, tt)

pub sound : (e : Env) (t : Tree ℕ) (A : Ty) → infer e t ≡ good A → Sound e t A
unfolding infer
sound e (occ p b) A h = let g = within_good p (e b) A h in record { is = g.is; low = low_one e (occ p b) A (e b) g refl }
sound e (num p n) A h = let g = within_good p N A h in record { is = g.is; low = low_one e (num p n) A N g refl }
sound e (succ p t) A h =
    let m = then_good (infer e t) (succ_rule p) A h in
    let g = succ_good p m.0 A m.2 in
    record { is = g.is; low = low_append (judgements e t) (judge e (succ p t) ∷ []) (sound e t m.0 m.1).low (low_one e (succ p t) A N g refl) }
sound e (lam p x T t) A h =
    let e' = put e x.place T in
    let m = then_good (infer e' t) (λ U. within p (T ⇒ U)) A h in
    let g = within_good p (T ⇒ m.0) A m.2 in
    let s = sound e' t m.0 m.1 in
    let q : (T ⇒ m.0) ≡ type_of e (lam p x T t) = ap (λ U. T ⇒ U) s.is in
    record { is = g.is ∙ q; low = low_append (judgements e' t) (judge e (lam p x T t) ∷ []) s.low (low_one e (lam p x T t) A (T ⇒ m.0) g q) }
sound e (app p t u) A h =
    let m = then_good (infer e t) (λ F. then (infer e u) (app_rule p F)) A h in
    let n = then_good (infer e u) (app_rule p m.0) A m.2 in
    let g = app_good p m.0 n.0 A n.2 in
    let s = sound e t m.0 m.1 in
    let r = sound e u n.0 n.1 in
    let q : result m.0 ≡ type_of e (app p t u) = ap result s.is in
    record { is = g.is ∙ q; low = low_append (judgements e t) (judgements e u ++ (judge e (app p t u) ∷ [])) s.low (low_append (judgements e u) (judge e (app p t u) ∷ []) r.low (low_one e (app p t u) A (result m.0) g q)) }
sound e (pair p t u) A h =
    let m = then_good (infer e t) (λ B. then (infer e u) (λ C. within p (B ⊗ C))) A h in
    let n = then_good (infer e u) (λ C. within p (m.0 ⊗ C)) A m.2 in
    let g = within_good p (m.0 ⊗ n.0) A n.2 in
    let s = sound e t m.0 m.1 in
    let r = sound e u n.0 n.1 in
    let q : (m.0 ⊗ n.0) ≡ type_of e (pair p t u) = cc (s.is, r.is) in
    record { is = g.is ∙ q; low = low_append (judgements e t) (judgements e u ++ (judge e (pair p t u) ∷ [])) s.low (low_append (judgements e u) (judge e (pair p t u) ∷ []) r.low (low_one e (pair p t u) A (m.0 ⊗ n.0) g q)) }
sound e (split p x y t u) A h =
    let m = then_good (infer e t) (split_rule p (λ B C. then (infer (put (put e x.place B) y.place C) u) (within p))) A h in
    let s = sound e t m.0 m.1 in
    let under : Ty → Env = λ P. put (put e x.place (first P)) y.place (second P) in
    let k = split_good p (λ B C. then (infer (put (put e x.place B) y.place C) u) (within p)) m.0 A m.2 in
    let n = then_good (infer (under m.0) u) (within p) A k in
    let g = within_good p n.0 A n.2 in
    let r = sound (under (type_of e t)) u n.0 (subst (λ P. infer (under P) u ≡ good n.0) s.is n.1) in
    record { is = g.is ∙ r.is; low = low_append (judgements e t) (judgements (under (type_of e t)) u ++ (judge e (split p x y t u) ∷ [])) s.low (low_append (judgements (under (type_of e t)) u) (judge e (split p x y t u) ∷ []) r.low (low_one e (split p x y t u) A n.0 g r.is)) }
sound e (iter p t u v) A h =
    let m = then_good (infer e t) (λ B. then (infer e u) (λ F. then (infer e v) (iter_rule p B F))) A h in
    let n = then_good (infer e u) (λ F. then (infer e v) (iter_rule p m.0 F)) A m.2 in
    let q = then_good (infer e v) (iter_rule p m.0 n.0) A n.2 in
    let g = iter_good p m.0 n.0 q.0 A q.2 in
    let s = sound e v q.0 q.1 in
    record { is = g.is ∙ s.is; low = low_append (judgements e t) (judgements e u ++ (judgements e v ++ (judge e (iter p t u v) ∷ []))) (sound e t m.0 m.1).low (low_append (judgements e u) (judgements e v ++ (judge e (iter p t u v) ∷ [])) (sound e u n.0 n.1).low (low_append (judgements e v) (judge e (iter p t u v) ∷ []) s.low (low_one e (iter p t u v) A q.0 g s.is))) }

pub inferred : (e : Env) (t : Tree ℕ) (A : Ty) → infer e t ≡ good A → A ≡ type_of e t
inferred e t A h = (sound e t A h).is

-- the answer for a whole, from those for its parts
pub succ_at : (e : Env) (p : ℕ) (t : Tree ℕ) (x : Checked) → infer e t ≡ x → infer e (succ p t) ≡ then x (succ_rule p)
unfolding infer
succ_at e p t x h = ap (λ y. then y (succ_rule p)) h

pub lam_at : (e : Env) (p : ℕ) (v : Binder) (T : Ty) (t : Tree ℕ) (x : Checked) → infer (put e v.place T) t ≡ x → infer e (lam p v T t) ≡ then x (λ U. within p (T ⇒ U))
unfolding infer
lam_at e p v T t x h = ap (λ y. then y (λ U. within p (T ⇒ U))) h

pub app_at : (e : Env) (p : ℕ) (t u : Tree ℕ) (x y : Checked) → infer e t ≡ x → infer e u ≡ y → infer e (app p t u) ≡ then x (λ F. then y (app_rule p F))
unfolding infer
app_at e p t u x y h g = ap (λ z. then z (λ F. then (infer e u) (app_rule p F))) h ∙ ap (λ z. then x (λ F. then z (app_rule p F))) g

pub pair_at : (e : Env) (p : ℕ) (t u : Tree ℕ) (x y : Checked) → infer e t ≡ x → infer e u ≡ y → infer e (pair p t u) ≡ then x (λ A. then y (λ B. within p (A ⊗ B)))
unfolding infer
pair_at e p t u x y h g = ap (λ z. then z (λ A. then (infer e u) (λ B. within p (A ⊗ B)))) h ∙ ap (λ z. then x (λ A. then z (λ B. within p (A ⊗ B)))) g

pub split_at : (e : Env) (p : ℕ) (v w : Binder) (t u : Tree ℕ) (x : Checked) → infer e t ≡ x → infer e (split p v w t u) ≡ then x (split_rule p (λ A B. then (infer (put (put e v.place A) w.place B) u) (within p)))
unfolding infer
split_at e p v w t u x h = ap (λ z. then z (split_rule p (λ A B. then (infer (put (put e v.place A) w.place B) u) (within p)))) h

pub split_body : (e : Env) (p : ℕ) (v w : Binder) (t u : Tree ℕ) (A B : Ty) (y : Checked) → infer e t ≡ good (A ⊗ B) → infer (put (put e v.place A) w.place B) u ≡ y → infer e (split p v w t u) ≡ then y (within p)
split_body e p v w t u A B y h g = split_at e p v w t u (good (A ⊗ B)) h ∙ ap (λ z. then z (within p)) g

pub iter_at : (e : Env) (p : ℕ) (t u v : Tree ℕ) (x y z : Checked) → infer e t ≡ x → infer e u ≡ y → infer e v ≡ z → infer e (iter p t u v) ≡ then x (λ A. then y (λ F. then z (iter_rule p A F)))
unfolding infer
iter_at e p t u v x y z h g k =
    ap (λ a. then a (λ A. then (infer e u) (λ F. then (infer e v) (iter_rule p A F)))) h ∙ (ap (λ a. then x (λ A. then a (λ F. then (infer e v) (iter_rule p A F)))) g ∙ ap (λ a. then x (λ A. then y (λ F. then a (iter_rule p A F)))) k)

pub occ_at : (e : Env) (p b : ℕ) → infer e (occ p b) ≡ within p (e b)
unfolding infer
occ_at e p b = refl

pub num_at : (e : Env) (p n : ℕ) → infer e (num p n) ≡ within p N
unfolding infer
num_at e p n = refl
