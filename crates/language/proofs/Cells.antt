-- What a cell says of the type that it stands for, and what of it lasts as cells are added.
use Rattle.std.proofs.Common.{◌≡◌, ℕ, ◌<◌, ◌≤◌, Bool, true, false, ◌&&◌, ◌⊎◌, List, [], ◌∷◌, ◌++◌, length, get_or, sym, refl, ap, ◌∙◌, subst, ap₂, inl, inr, arith, length-append}
use Rattle.std.proofs.lemmas.List.{get_or_append_left, get_or_push}
use Rattle.std.proofs.lemmas.Bool.{cases_lt}
use Rattle.calculus.specs.Types.{Ty, ◌⇒◌, ◌⊗◌}
use Rattle.syntax.specs.declared.program.TypeCell.{TypeCell}
use Rattle.syntax.specs.declared.program.TypeCell.TheVariants as kind
use Rattle.syntax.specs.Program.{DenotesType}
use Rattle.language.specs.declared.measure.Measure.{Measure}
use Rattle.language.specs.Infer.{same}
use Rattle.language.specs.Measures.{SameTypes, HeightsOf, NaturalsOf, measure_at, measure_of, joined, number}

pub inside : (A : Ty) (cells : List TypeCell) (i : ℕ) → DenotesType cells i A → i < length cells
inside Ty.N cells i h = h.0
inside (A ⇒ B) cells i h = h.2
inside (A ⊗ B) cells i h = h.2

-- a type and its two parts
pub record Parts (cells : List TypeCell) (i p q : ℕ) (how : Ty → Ty → Ty) (A : Ty) : Type 0 where
  pub a : Ty
  pub b : Ty
  pub is : A ≡ how a b
  pub less : p < i
  pub less' : q < i
  pub first : DenotesType cells p a
  pub second : DenotesType cells q b

-- what a type is whose cell is known
abbrev pub Reads : List TypeCell → ℕ → TypeCell → Ty → Type 0
Reads cells i kind.N A = A ≡ Ty.N
Reads cells i (kind.Arrow p q) A = Parts cells i p q ◌⇒◌ A
Reads cells i (kind.Product p q) A = Parts cells i p q ◌⊗◌ A

pub reads : (A : Ty) (cells : List TypeCell) (i : ℕ) (x : TypeCell) → get_or cells i kind.N ≡ x → DenotesType cells i A → Reads cells i x A
reads Ty.N cells i x e h = subst (λ y. Reads cells i y Ty.N) (sym h.1 ∙ e) refl
reads (A ⇒ B) cells i x e (p, q, l, g, m, n, z, w) =
    subst (λ y. Reads cells i y (A ⇒ B)) (sym g ∙ e) (record { a = A; b = B; is = refl; less = m; less' = n; first = z; second = w })
reads (A ⊗ B) cells i x e (p, q, l, g, m, n, z, w) =
    subst (λ y. Reads cells i y (A ⊗ B)) (sym g ∙ e) (record { a = A; b = B; is = refl; less = m; less' = n; first = z; second = w })

-- what a cell stands for lasts as cells are added
pub denotes_more : (A : Ty) (cells more : List TypeCell) (i : ℕ) → DenotesType cells i A → DenotesType (cells ++ more) i A
denotes_more Ty.N cells more i h =
    let lt : i < length cells = h.0 in
    (omega (arith, length-append cells more), get_or_append_left cells more kind.N i lt ∙ h.1)
denotes_more (A ⇒ B) cells more i (p, q, l, g, m, n, z, w) =
    (p, q, omega (arith, length-append cells more), get_or_append_left cells more kind.N i l ∙ g, m, n, denotes_more A cells more p z, denotes_more B cells more q w)
denotes_more (A ⊗ B) cells more i (p, q, l, g, m, n, z, w) =
    (p, q, omega (arith, length-append cells more), get_or_append_left cells more kind.N i l ∙ g, m, n, denotes_more A cells more p z, denotes_more B cells more q w)

-- and rests on no cell above it
pub denotes_less : (A : Ty) (cells more : List TypeCell) (i : ℕ) → i < length cells → DenotesType (cells ++ more) i A → DenotesType cells i A
denotes_less Ty.N cells more i lt h = (lt, sym (get_or_append_left cells more kind.N i lt) ∙ h.1)
denotes_less (A ⇒ B) cells more i lt (p, q, l, g, m, n, z, w) =
    (p, q, lt, sym (get_or_append_left cells more kind.N i lt) ∙ g, m, n, denotes_less A cells more p (omega arith) z, denotes_less B cells more q (omega arith) w)
denotes_less (A ⊗ B) cells more i lt (p, q, l, g, m, n, z, w) =
    (p, q, lt, sym (get_or_append_left cells more kind.N i lt) ∙ g, m, n, denotes_less A cells more p (omega arith) z, denotes_less B cells more q (omega arith) w)

pub same_numbers : (cells : List TypeCell) (i j : ℕ) → get_or cells i kind.N ≡ kind.N → get_or cells j kind.N ≡ kind.N → SameTypes cells i j true
same_numbers cells i j e f A B x y =
    subst (λ T. true ≡ same T B) (sym (reads A cells i kind.N e x)) (subst (λ U. true ≡ same Ty.N U) (sym (reads B cells j kind.N f y)) refl)

-- two types of one sign are compared by their parts
abbrev Alike : (Ty → Ty → Ty) → Type 0
Alike how = (A B C D : Ty) → same (how A B) (how C D) ≡ (same A C && same B D)

by_parts : (how : Ty → Ty → Ty) → Alike how → (cells : List TypeCell) (i j p q p' q' : ℕ) (A B : Ty) (m : Parts cells i p q how A) (n : Parts cells j p' q' how B) → same A B ≡ (same m.a n.a && same m.b n.b)
by_parts how law cells i j p q p' q' A B m n =
    ap (λ T. same T B) m.is ∙ (ap (λ U. same (how m.a m.b) U) n.is ∙ law m.a m.b n.a n.b)

same_parts : (how : Ty → Ty → Ty) → Alike how → (cells : List TypeCell) (i j p q p' q' : ℕ) (r s : Bool) → ((A : Ty) → DenotesType cells i A → Parts cells i p q how A) → ((B : Ty) → DenotesType cells j B → Parts cells j p' q' how B) → SameTypes cells p p' r → r ≡ true → SameTypes cells q q' s → SameTypes cells i j s
same_parts how law cells i j p q p' q' r s f g h true-r k A B x y =
    let m = f A x in
    let n = g B y in
    let u : same m.a n.a ≡ true = sym (h m.a n.a m.first n.first) ∙ true-r in
    k m.b n.b m.second n.second ∙ sym (by_parts how law cells i j p q p' q' A B m n ∙ ap (λ b. b && same m.b n.b) u)

other_parts : (how : Ty → Ty → Ty) → Alike how → (cells : List TypeCell) (i j p q p' q' : ℕ) (r : Bool) → ((A : Ty) → DenotesType cells i A → Parts cells i p q how A) → ((B : Ty) → DenotesType cells j B → Parts cells j p' q' how B) → SameTypes cells p p' r → r ≡ false → SameTypes cells i j r
other_parts how law cells i j p q p' q' r f g h false-r A B x y =
    let m = f A x in
    let n = g B y in
    let u : same m.a n.a ≡ false = sym (h m.a n.a m.first n.first) ∙ false-r in
    false-r ∙ sym (by_parts how law cells i j p q p' q' A B m n ∙ ap (λ b. b && same m.b n.b) u)

pub same_arrows : (cells : List TypeCell) (i j p q p' q' : ℕ) (r s : Bool) → get_or cells i kind.N ≡ kind.Arrow p q → get_or cells j kind.N ≡ kind.Arrow p' q' → SameTypes cells p p' r → r ≡ true → SameTypes cells q q' s → SameTypes cells i j s
same_arrows cells i j p q p' q' r s e f = same_parts ◌⇒◌ (λ _ _ _ _. refl) cells i j p q p' q' r s (λ A x. reads A cells i (kind.Arrow p q) e x) (λ B y. reads B cells j (kind.Arrow p' q') f y)

pub same_products : (cells : List TypeCell) (i j p q p' q' : ℕ) (r s : Bool) → get_or cells i kind.N ≡ kind.Product p q → get_or cells j kind.N ≡ kind.Product p' q' → SameTypes cells p p' r → r ≡ true → SameTypes cells q q' s → SameTypes cells i j s
same_products cells i j p q p' q' r s e f = same_parts ◌⊗◌ (λ _ _ _ _. refl) cells i j p q p' q' r s (λ A x. reads A cells i (kind.Product p q) e x) (λ B y. reads B cells j (kind.Product p' q') f y)

pub other_arrows : (cells : List TypeCell) (i j p q p' q' : ℕ) (r : Bool) → get_or cells i kind.N ≡ kind.Arrow p q → get_or cells j kind.N ≡ kind.Arrow p' q' → SameTypes cells p p' r → r ≡ false → SameTypes cells i j r
other_arrows cells i j p q p' q' r e f = other_parts ◌⇒◌ (λ _ _ _ _. refl) cells i j p q p' q' r (λ A x. reads A cells i (kind.Arrow p q) e x) (λ B y. reads B cells j (kind.Arrow p' q') f y)

pub other_products : (cells : List TypeCell) (i j p q p' q' : ℕ) (r : Bool) → get_or cells i kind.N ≡ kind.Product p q → get_or cells j kind.N ≡ kind.Product p' q' → SameTypes cells p p' r → r ≡ false → SameTypes cells i j r
other_products cells i j p q p' q' r e f = other_parts ◌⊗◌ (λ _ _ _ _. refl) cells i j p q p' q' r (λ A x. reads A cells i (kind.Product p q) e x) (λ B y. reads B cells j (kind.Product p' q') f y)

-- types of two signs are not equal
not_number : (B : Ty) (cells : List TypeCell) (j : ℕ) → (get_or cells j kind.N ≡ kind.N → ⊥) → DenotesType cells j B → false ≡ same Ty.N B
not_number Ty.N cells j f y = absurd (f y.1)
not_number (C ⇒ D) cells j f y = refl
not_number (C ⊗ D) cells j f y = refl

not_arrow : (A B C : Ty) (cells : List TypeCell) (j : ℕ) → ((x y : ℕ) → get_or cells j kind.N ≡ kind.Arrow x y → ⊥) → DenotesType cells j C → false ≡ same (A ⇒ B) C
not_arrow A B Ty.N cells j f y = refl
not_arrow A B (C ⇒ D) cells j f y = absurd (f y.0 y.1 y.3)
not_arrow A B (C ⊗ D) cells j f y = refl

not_product : (A B C : Ty) (cells : List TypeCell) (j : ℕ) → ((x y : ℕ) → get_or cells j kind.N ≡ kind.Product x y → ⊥) → DenotesType cells j C → false ≡ same (A ⊗ B) C
not_product A B Ty.N cells j f y = refl
not_product A B (C ⇒ D) cells j f y = refl
not_product A B (C ⊗ D) cells j f y = absurd (f y.0 y.1 y.3)

pub apart_number : (cells : List TypeCell) (i j : ℕ) → get_or cells i kind.N ≡ kind.N → (get_or cells j kind.N ≡ kind.N → ⊥) → SameTypes cells i j false
apart_number cells i j e f A B x y = subst (λ T. false ≡ same T B) (sym (reads A cells i kind.N e x)) (not_number B cells j f y)

pub apart_arrow : (cells : List TypeCell) (i j p q : ℕ) → get_or cells i kind.N ≡ kind.Arrow p q → ((x y : ℕ) → get_or cells j kind.N ≡ kind.Arrow x y → ⊥) → SameTypes cells i j false
apart_arrow cells i j p q e f A B x y =
    let m = reads A cells i (kind.Arrow p q) e x in
    subst (λ T. false ≡ same T B) (sym m.is) (not_arrow m.a m.b B cells j f y)

pub apart_product : (cells : List TypeCell) (i j p q : ℕ) → get_or cells i kind.N ≡ kind.Product p q → ((x y : ℕ) → get_or cells j kind.N ≡ kind.Product x y → ⊥) → SameTypes cells i j false
apart_product cells i j p q e f A B x y =
    let m = reads A cells i (kind.Product p q) e x in
    subst (λ T. false ≡ same T B) (sym m.is) (not_product m.a m.b B cells j f y)

-- a measure for one more cell
module _ (cells : List TypeCell) (measures : List Measure) (long : length measures ≡ length cells) (heights : HeightsOf cells measures) (counts : NaturalsOf cells measures) where
  each : (k : ℕ) (A : Ty) → DenotesType cells k A → get_or measures k number ≡ measure_of A
  each k A d = let h = heights k A d in let n = counts k A d in λ i. record { height = h i; naturals = n i }

  last : (x : TypeCell) (A : Ty) → DenotesType (cells ++ (x ∷ [])) (length cells) A → measure_at measures x ≡ measure_of A
  last x Ty.N d = ap (measure_at measures) (sym (get_or_push cells x kind.N (length cells) refl) ∙ d.1)
  last x (A ⇒ B) (p, q, l, g, m, n, z, w) =
      ap (measure_at measures) (sym (get_or_push cells x kind.N (length cells) refl) ∙ g) ∙ ap₂ joined (each p A (denotes_less A cells (x ∷ []) p m z)) (each q B (denotes_less B cells (x ∷ []) q n w))
  last x (A ⊗ B) (p, q, l, g, m, n, z, w) =
      ap (measure_at measures) (sym (get_or_push cells x kind.N (length cells) refl) ∙ g) ∙ ap₂ joined (each p A (denotes_less A cells (x ∷ []) p m z)) (each q B (denotes_less B cells (x ∷ []) q n w))

  at : (x : TypeCell) (k : ℕ) (A : Ty) → DenotesType (cells ++ (x ∷ [])) k A → (k < length cells) ⊎ (length cells ≤ k) → get_or (measures ++ (measure_at measures x ∷ [])) k number ≡ measure_of A
  at x k A d (inl lt) =
      let lt' : k < length measures = omega arith in
      get_or_append_left measures (measure_at measures x ∷ []) number k lt' ∙ each k A (denotes_less A cells (x ∷ []) k lt d)
  at x k A d (inr ge) =
      let e : k ≡ length cells = omega (arith, inside A (cells ++ (x ∷ [])) k d, length-append cells (x ∷ [])) in
      get_or_push measures (measure_at measures x) number k (long ∙ sym e) ∙ last x A (subst (λ n. DenotesType (cells ++ (x ∷ [])) n A) e d)

  pub measured_more : (x : TypeCell) (k : ℕ) (A : Ty) → DenotesType (cells ++ (x ∷ [])) k A → get_or (measures ++ (measure_at measures x ∷ [])) k number ≡ measure_of A
  measured_more x k A d = at x k A d (cases_lt k (length cells))

  pub heights_more : (x : TypeCell) (cells' : List TypeCell) (measures' : List Measure) → cells' ≡ cells ++ (x ∷ []) → measures' ≡ measures ++ (measure_at measures x ∷ []) → HeightsOf cells' measures'
  heights_more x cells' measures' e f k A d = ap (λ ms. (get_or ms k number).height) f ∙ ap (λ m. m.height) (measured_more x k A (subst (λ cs. DenotesType cs k A) e d))

  pub naturals_more : (x : TypeCell) (cells' : List TypeCell) (measures' : List Measure) → cells' ≡ cells ++ (x ∷ []) → measures' ≡ measures ++ (measure_at measures x ∷ []) → NaturalsOf cells' measures'
  naturals_more x cells' measures' e f k A d = ap (λ ms. (get_or ms k number).naturals) f ∙ ap (λ m. m.naturals) (measured_more x k A (subst (λ cs. DenotesType cs k A) e d))

-- no cell, no type
pub nothing : (cells : List TypeCell) → cells ≡ [] → (k : ℕ) (A : Ty) → DenotesType cells k A → ⊥
nothing cells e k A d = let h : k < length {A = TypeCell} [] = subst (λ cs. k < length cs) e (inside A cells k d) in omega arith
