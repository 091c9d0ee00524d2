-- Signs have one refusal at most, and none where they spell a term within the limits.
use Rattle.std.proofs.Common.{◌≡◌, ℕ, zero, suc, ◌<◌, ◌≤◌, Bool, true, false, cond, List, [], ◌∷◌, ◌++◌, length, take, sym, refl, ap, ◌∙◌, subst, inl, inr, append_assoc, append-nil, arith, length-append, take-take}
use Rattle.std.proofs.lemmas.Bool.{cases_order}
use Rattle.syntax.specs.declared.refusal.Fault.{Fault}
use Rattle.syntax.specs.declared.refusal.Fault.TheVariants.{WrongSign}
use Rattle.syntax.specs.declared.refusal.Refusal.{Refusal}
use Rattle.syntax.specs.Trees.{Name, Tree}
use Rattle.syntax.specs.Signs.{Sign, Placed}
use Rattle.syntax.specs.Grammar.{Stands, Within}
use Rattle.grammar.specs.Roles.{Role, roles, counted, greatest, Kept, Broken, too_large, passed}
use Rattle.grammar.specs.Reading.{place_of_next, SameNext, Misplaced, Passes, Refused, misplaced, passes}
use Rattle.grammar.proofs.Limits.{within_kept}

-- fewer signs keep the limits too
counted-take : (f : Role → Bool) (n : ℕ) (l : List Role) → counted f (take n l) ≤ counted f l
counted-take f zero l = omega arith
counted-take f (suc n) [] = omega arith
counted-take f (suc n) (ρ ∷ l) = by (f ρ) (counted-take f n l)
  where
    by : (b : Bool) → counted f (take n l) ≤ counted f l → cond b (suc (counted f (take n l))) (counted f (take n l)) ≤ cond b (suc (counted f l)) (counted f l)
    by true h = omega arith
    by false h = h

greatest-take : (f : Role → ℕ) (n : ℕ) (l : List Role) → greatest f (take n l) ≤ greatest f l
greatest-take f zero l = omega arith
greatest-take f (suc n) [] = omega arith
greatest-take f (suc n) (ρ ∷ l) = omega (arith, greatest-take f n l)

kept_take : (n : ℕ) (l : List Role) → Kept l → Kept (take n l)
kept_take n l h = record {
  numbers = omega (arith, greatest-take (λ ρ. ρ.value) n l, h.numbers);
  subterms = omega (arith, counted-take (λ ρ. ρ.subterm) n l, h.subterms);
  deep = omega (arith, greatest-take (λ ρ. ρ.depth) n l, h.deep);
  signs = omega (arith, counted-take (λ ρ. ρ.type_sign) n l, h.signs);
  types_deep = omega (arith, greatest-take (λ ρ. ρ.type_depth) n l, h.types_deep);
}

kept_fewer : (m n : ℕ) (l : List Role) → m ≤ n → Kept (take n l) → Kept (take m l)
kept_fewer m n l h k = subst Kept (take-take m n l h) (kept_take m (take n l) k)

not_both : {l : List Role} {f : Fault} → Broken l f → Kept l → ⊥
not_both (too_large h) k = (let n = k.numbers in omega arith)
not_both (passed h n) k = n k

one_fault : {l : List Role} {f g : Fault} → Broken l f → Broken l g → f ≡ g
one_fault (too_large h) (too_large k) = refl
one_fault (too_large h) (passed k n) = absurd (omega arith)
one_fault (passed h n) (too_large k) = absurd (omega arith)
one_fault (passed h n) (passed k m) = refl

-- two ways to cut a list: what lies between them
record Between (a b c d : List Placed) : Type 0 where
  pub between : List Placed
  pub longer : c ≡ a ++ between
  pub rest : b ≡ between ++ d

cut : (a b c d : List Placed) → a ++ b ≡ c ++ d → length a ≤ length c → Between a b c d
cut [] b c d e h = record { between = c; longer = refl; rest = e }
cut (x ∷ a) b [] d e h = absurd (omega arith)
cut (x ∷ a) b (y ∷ c) d e h =
    let t : a ++ b ≡ c ++ d = cc in
    let s : y ≡ x = cc in
    let r = cut a b c d t (omega arith) in
    record { between = r.between; longer = ap (λ z. z ∷ c) s ∙ ap (λ z. x ∷ z) r.longer; rest = r.rest }

-- no spelling goes on from a misplaced sign
no_further : (end : ℕ) (s : List Placed) (p : ℕ) (m : Misplaced end s p) (q : ℕ) (x : Sign) (w y : List Placed) (t : Tree Name) → m.rest ≡ (q, x) ∷ w → Stands t (m.front ++ ((q, x) ∷ y)) [] → ⊥
no_further end s p m q x w y t e h = m.stuck ((q, x) ∷ y) t (subst (λ r. SameNext r ((q, x) ∷ y)) (sym e) (q, y, refl)) h

misplaced_once : (end : ℕ) (s : List Placed) (p q : ℕ) (m : Misplaced end s p) (n : Misplaced end s q) → length m.front ≤ length n.front → p ≡ q
misplaced_once end s p q m n h = by r.between r.longer r.rest
  where
    r : Between m.front m.rest n.front n.rest
    r = cut m.front m.rest n.front n.rest (sym m.is ∙ n.is) h

    by : (b : List Placed) → n.front ≡ m.front ++ b → m.rest ≡ b ++ n.rest → p ≡ q
    by [] l e = m.place ∙ ap (place_of_next end) e ∙ sym n.place
    by ((o, x) ∷ b) l e =
        let (y, t, st) = n.begins in
        absurd (no_further end s p m o x (b ++ n.rest) (b ++ y) t e (subst (λ z. Stands t z []) (append_assoc m.front ((o, x) ∷ b) y) (subst (λ z. Stands t (z ++ y) []) l st)))

-- a misplaced sign is not after one that passes a limit, nor before it
misplaced_later : (end : ℕ) (s : List Placed) (p q : ℕ) (f : Fault) (m : Misplaced end s p) (n : Passes f s q) → length m.front ≤ length n.front → ⊥
misplaced_later end s p q f m n h = by r.between r.longer r.rest
  where
    r : Between m.front m.rest n.front ((q, n.sign) ∷ n.rest)
    r = cut m.front m.rest n.front ((q, n.sign) ∷ n.rest) (sym m.is ∙ n.is) h

    at : (t : Tree Name) (y b : List Placed) → n.front ≡ m.front ++ b → Stands t ((n.front ++ ((q, n.sign) ∷ [])) ++ y) [] → Stands t (m.front ++ (b ++ ((q, n.sign) ∷ y))) []
    at t y b l st = subst (λ z. Stands t z []) (append_assoc n.front ((q, n.sign) ∷ []) y ∙ ap (λ z. z ++ ((q, n.sign) ∷ y)) l ∙ append_assoc m.front b ((q, n.sign) ∷ y)) st

    by : (b : List Placed) → n.front ≡ m.front ++ b → m.rest ≡ b ++ ((q, n.sign) ∷ n.rest) → ⊥
    by [] l e = let (y, t, st) = n.begins in no_further end s p m q n.sign n.rest y t e (at t y [] l st)
    by ((o, x) ∷ b) l e = let (y, t, st) = n.begins in no_further end s p m o x (b ++ ((q, n.sign) ∷ n.rest)) (b ++ ((q, n.sign) ∷ y)) t e (at t y ((o, x) ∷ b) l st)

-- signs that keep the limits go on past one that passes them
passes_later : (s : List Placed) (q : ℕ) (f : Fault) (n : Passes f s q) (front rest : List Placed) → s ≡ front ++ rest → ((y : List Placed) (t : Tree Name) → Stands t (front ++ y) [] → Kept (take (length front) (roles 1 t))) → (y : List Placed) (t : Tree Name) → Stands t (front ++ y) [] → length n.front < length front → ⊥
passes_later s q f n front rest is kept y t st h = by r.between r.longer r.rest
  where
    r : Between n.front ((q, n.sign) ∷ n.rest) front rest
    r = cut n.front ((q, n.sign) ∷ n.rest) front rest (sym n.is ∙ is) (omega arith)

    by : (b : List Placed) → front ≡ n.front ++ b → (q, n.sign) ∷ n.rest ≡ b ++ rest → ⊥
    by [] l e = (let w = ap length l in let v = length-append n.front [] in omega arith)
    by ((o, x) ∷ b) l e =
        let same : ◌≡◌ {A = Placed} (q, n.sign) (o, x) = cc in
        let st' : Stands t (n.front ++ ((q, n.sign) ∷ (b ++ y))) [] = subst (λ z. Stands t (n.front ++ (z ∷ (b ++ y))) []) (sym same) (subst (λ z. Stands t z []) (ap (λ z. z ++ y) l ∙ append_assoc n.front ((o, x) ∷ b) y) st) in
        not_both (n.broken q (b ++ y) t st') (kept_fewer (suc (length n.front)) (length front) (roles 1 t) h (kept y t st))

passes_once : (s : List Placed) (p q : ℕ) (f g : Fault) (m : Passes f s p) (n : Passes g s q) → length m.front ≡ length n.front → (f ≡ g) × (p ≡ q)
passes_once s p q f g m n h = by r.between r.longer r.rest
  where
    r : Between m.front ((p, m.sign) ∷ m.rest) n.front ((q, n.sign) ∷ n.rest)
    r = cut m.front ((p, m.sign) ∷ m.rest) n.front ((q, n.sign) ∷ n.rest) (sym m.is ∙ n.is) (omega arith)

    by : (b : List Placed) → n.front ≡ m.front ++ b → (p, m.sign) ∷ m.rest ≡ b ++ ((q, n.sign) ∷ n.rest) → (f ≡ g) × (p ≡ q)
    by (o ∷ b) l e = absurd (let w = ap length l in let v = length-append m.front (o ∷ b) in omega arith)
    by [] l e =
        let same : ◌≡◌ {A = Placed} (p, m.sign) (q, n.sign) = cc in
        let (y, t, st) = n.begins in
        let a : Stands t (n.front ++ ((q, n.sign) ∷ y)) [] = subst (λ z. Stands t z []) (append_assoc n.front ((q, n.sign) ∷ []) y) st in
        let c : Stands t (m.front ++ ((p, m.sign) ∷ y)) [] = subst (λ z. Stands t (z ++ ((p, m.sign) ∷ y)) []) (l ∙ append-nil m.front) (subst (λ z. Stands t (n.front ++ (z ∷ y)) []) (sym same) a) in
        let x = m.broken p y t c in
        let z = n.broken q y t a in
        (one_fault x (subst (λ k. Broken (take (suc k) (roles 1 t)) g) (sym h) z), ap (λ k. k.0) same)

pub refused_once : {end : ℕ} {s : List Placed} {f g : Refusal} → Refused end s f → Refused end s g → f ≡ g
refused_once {end} {s} (misplaced {p = p} m) (misplaced {p = q} n) = ap (λ k. record { fault = WrongSign; place = k }) (elim (cases_order (length m.front) (length n.front)) [
  | inl e ↦ misplaced_once end s p q m n (omega arith)
  | inr e ↦ elim e [ inl k ↦ misplaced_once end s p q m n (omega arith) | inr k ↦ sym (misplaced_once end s q p n m (omega arith)) ]
])
refused_once {end} {s} (misplaced {p = p} m) (passes {f = g} {p = q} n) = absurd (elim (cases_order (length m.front) (length n.front)) [
  | inl e ↦ misplaced_later end s p q g m n (omega arith)
  | inr e ↦ elim e [ inl k ↦ misplaced_later end s p q g m n (omega arith) | inr k ↦ (let (y, t, st) = m.begins in passes_later s q g n m.front m.rest m.is m.kept y t st k) ]
])
refused_once {end} {s} (passes {f = f} {p = p} m) (misplaced {p = q} n) = absurd (elim (cases_order (length n.front) (length m.front)) [
  | inl e ↦ misplaced_later end s q p f n m (omega arith)
  | inr e ↦ elim e [ inl k ↦ misplaced_later end s q p f n m (omega arith) | inr k ↦ (let (y, t, st) = n.begins in passes_later s p f m n.front n.rest n.is n.kept y t st k) ]
])
refused_once {end} {s} (passes {f = f} {p = p} m) (passes {f = g} {p = q} n) = elim (cases_order (length m.front) (length n.front)) [
  | inl e ↦ (let r = passes_once s p q f g m n e in ap (λ k. record { fault = k; place = p }) r.0 ∙ ap (λ k. record { fault = g; place = k }) r.1)
  | inr e ↦ elim e [
    | inl k ↦ (let (y, t, st) = n.begins in absurd (passes_later s p f m n.front ((q, n.sign) ∷ n.rest) n.is n.kept ((q, n.sign) ∷ y) t (subst (λ z. Stands t z []) (append_assoc n.front ((q, n.sign) ∷ []) y) st) k))
    | inr k ↦ (let (y, t, st) = m.begins in absurd (passes_later s q g n m.front ((p, m.sign) ∷ m.rest) m.is m.kept ((p, m.sign) ∷ y) t (subst (λ z. Stands t z []) (append_assoc m.front ((p, m.sign) ∷ []) y) st) k))
  ]
]

-- and no term within the limits is spelled then
same_next : (r : List Placed) → SameNext r r
same_next [] = refl
same_next ((p, x) ∷ r) = (p, r, refl)

pub not_refused : {end : ℕ} {s : List Placed} {f : Refusal} (t : Tree Name) → Refused end s f → Stands t s [] → Within t → ⊥
not_refused t (misplaced m) h w = m.stuck m.rest t (same_next m.rest) (subst (λ z. Stands t z []) m.is h)
not_refused t (passes {p = p} n) h w = not_both (n.broken p n.rest t (subst (λ z. Stands t z []) n.is h)) (kept_take (suc (length n.front)) (roles 1 t) (within_kept t w))
