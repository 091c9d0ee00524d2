-- What wiring a part leaves of the table: only variables free in the part start elsewhere.
use Rattle.std.proofs.Common.{◌≡◌, ℕ, ◌<◌, Bool, true, false, eqb, Option, List, [], ◌∷◌, ◌++◌, length, set, sym, refl, ap, ◌∙◌, arith, length-set}
use Rattle.std.proofs.lemmas.Bool.{ne_eqb, eqb-true, eqb-false}
use Rattle.std.specs.Option.{unwrap_or}
use Rattle.cells.specs.declared.kinds.Cell.{Cell}
use Rattle.cells.specs.Ports.{absent}
use Rattle.calculus.specs.Terms.{Term, free, without}
use Rattle.geometry.specs.Network.{EachVariable}
use Rattle.geometry.specs.Derivations.{Apart, Distinct}
use Rattle.geometry.proofs.Local.{each_map, Same, Under}
use Rattle.geometry.proofs.Names.{Apart-left}
use Rattle.geometry.proofs.Ends.{entered_else}
use Rattle.network.specs.Wiring.{Table, start_of, starting, Crossed, Wired, Passed}
use Rattle.network.proofs.Gathered.{start_same, starts_other}

-- all variables but these start where they did
pub record Moved (xs : List ℕ) (s s' : Table) : Type 0 where
  pub long : length s' ≡ length s
  pub same : (y : ℕ) → Apart y xs → starting s' y ≡ starting s y

pub wired-moved : {t : Term} {k r e : ℕ} {s s' : Table} {cs cs' : List Cell} → Wired t k r e s s' cs cs' → Moved (free t) s s'
wired-moved w = record { long = w.long; same = w.same }

pub passed-moved : {t : Term} {k r e : ℕ} {s s' : Table} {cs cs' : List Cell} → Passed t k r e s s' cs cs' → Moved (free t) s s'
passed-moved x = record { long = x.long; same = x.same }

pub crossed_moved : (xs : List ℕ) (j : ℕ) (s s' : Table) (cs cs' : List Cell) → Crossed xs j s s' cs cs' → Moved xs s s'
crossed_moved xs j s s' cs cs' x = record { long = x.long; same = λ y a. x.inside y ∙ entered_else y xs j (starting s) a }

pub moved-again : (xs : List ℕ) (a b c : Table) → Moved xs a b → Moved xs b c → Moved xs a c
moved-again xs a b c p q = record { long = q.long ∙ p.long; same = λ y h. q.same y h ∙ p.same y h }

apart_right : (y : ℕ) (xs ys : List ℕ) → Apart y (xs ++ ys) → Apart y ys
apart_right y [] ys h = h
apart_right y (x ∷ xs) ys h = apart_right y xs ys h.1

pub moved-both : (xs ys : List ℕ) (a b c : Table) → Moved xs a b → Moved ys b c → Moved (xs ++ ys) a c
moved-both xs ys a b c p q = record { long = q.long ∙ p.long; same = λ y h. q.same y (apart_right y xs ys h) ∙ p.same y (Apart-left y xs ys h) }

-- a variable other than the binder's
apart_bound : (x y : ℕ) (xs : List ℕ) → eqb x y ≡ false → Apart y (without x xs) → Apart y xs
apart_bound x y [] n h = tt
apart_bound x y (z ∷ zs) n h = go (apart_bound x y zs n) (eqb x z) refl
  where
    go : (Apart y (without x zs) → Apart y zs) → (b : Bool) → eqb x z ≡ b → Apart y (z ∷ zs)
    go k true e = (ne_eqb y z (λ q. eqb-false x y n (eqb-true x z e ∙ sym q)), k (rw e at h))
    go k false e = let g : (eqb y z ≡ false) × Apart y (without x zs) = rw e at h in (g.0, k g.1)

-- under a binder: its variable starts at p, and in the end where it did
pub rebound : (xs : List ℕ) (s s₁ s₂ s₃ : Table) (x : ℕ) (p o : Option ℕ) → x < length s → s₁ ≡ set s x p → Moved xs s₁ s₂ → o ≡ start_of s x → s₃ ≡ set s₂ x o → Moved (without x xs) s s₃
rebound xs s s₁ s₂ s₃ x p o l e m f g = record { long = ap length g ∙ (length-set s₂ x o ∙ long); same = λ y a. go y a (eqb x y) refl }
  where
    long : length s₂ ≡ length s
    long = m.long ∙ (ap length e ∙ length-set s x p)

    go : (y : ℕ) → Apart y (without x xs) → (b : Bool) → eqb x y ≡ b → starting s₃ y ≡ starting s y
    go y a true z = let q = eqb-true x y z in ap (λ r. starting r y) g ∙ (ap (starting (set s₂ x o)) (sym q) ∙ (ap (λ r. unwrap_or r absent) (start_same s₂ x o (omega (arith, l, long)) ∙ f) ∙ ap (starting s) q))
    go y a false z = ap (λ r. starting r y) g ∙ (starts_other s₂ x y o z ∙ (m.same y (apart_bound x y xs z a) ∙ (ap (λ r. starting r y) e ∙ starts_other s x y p z)))

each_both : (P Q : ℕ → Type 0) (xs : List ℕ) → EachVariable P xs → EachVariable Q xs → EachVariable (λ y. P y × Q y) xs
each_both P Q [] p q = tt
each_both P Q (x ∷ xs) p q = ((p.0, q.0), each_both P Q xs p.1 q.1)

others : (x : ℕ) (xs ys : List ℕ) → Apart x (xs ++ ys) → EachVariable (λ y. eqb y x ≡ false) ys
others x [] [] h = tt
others x [] (y ∷ ys) h = (ne_eqb y x (λ q. eqb-false x y h.0 (sym q)), others x [] ys h.1)
others x (z ∷ xs) ys h = others x xs ys h.1

each_any : (ys : List ℕ) → EachVariable (λ y. Apart y []) ys
each_any [] = tt
each_any (y ∷ ys) = (tt, each_any ys)

-- of distinct variables, the later are none of the earlier
each_apart : (xs ys : List ℕ) → Distinct (xs ++ ys) → EachVariable (λ y. Apart y xs) ys
each_apart [] ys h = each_any ys
each_apart (x ∷ xs) ys h = each_both (λ y. eqb y x ≡ false) (λ y. Apart y xs) ys (others x xs ys h.0) (each_apart xs ys h.1)

pub unmoved : (xs ys : List ℕ) (s s' : Table) → Moved xs s s' → Distinct (xs ++ ys) → EachVariable (Same (starting s') (starting s)) ys
unmoved xs ys s s' m d = each_map (λ y. Apart y xs) (Same (starting s') (starting s)) m.same ys (each_apart xs ys d)

pub still_started : (n : ℕ) (xs ys : List ℕ) (s s' : Table) → Moved xs s s' → Distinct (xs ++ ys) → EachVariable (Under n (starting s)) ys → EachVariable (Under n (starting s')) ys
still_started n xs ys s s' m d h =
    each_map (λ y. Same (starting s') (starting s) y × Under n (starting s) y) (Under n (starting s')) (λ y p. rw p.0 p.1) ys (each_both (Same (starting s') (starting s)) (Under n (starting s)) ys (unmoved xs ys s s' m d) h)
