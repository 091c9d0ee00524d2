-- The pigeonhole principle: different things of a list are no more than the list is long.
use Rattle.std.proofs.Common.{◌≡◌, ℕ, zero, suc, ◌<◌, ◌≤◌, Bool, true, false, ◌⊎◌, List, [], ◌∷◌, ◌++◌, length, sym, refl, ap, ◌∙◌, subst, inl, inr, arith}
use native.Mathlib.Decide.{dec_lt}

abbrev pub bump : Bool → ℕ → ℕ
bump true c = suc c
bump false c = c

-- how many numbers below n pass the test
abbrev pub count : (ℕ → Bool) → ℕ → ℕ
count b zero = 0
count b (suc n) = bump (b n) (count b n)

pub count_all : (n : ℕ) → count (λ _. true) n ≡ n
count_all zero = refl
count_all (suc n) = ap suc (count_all n)

-- x with the place v closed up
abbrev closed : ℕ → ℕ → ℕ
closed zero zero = zero
closed zero (suc x) = x
closed (suc v) zero = zero
closed (suc v) (suc x) = suc (closed v x)

closed_fact : (v x : ℕ) → ¬ (x ≡ v) → ((x < v) × (closed v x ≡ x)) ⊎ ((v < x) × (suc (closed v x) ≡ x))
closed_fact zero zero d = absurd (d refl)
closed_fact zero (suc x) d = inr (omega arith, refl)
closed_fact (suc v) zero d = inl (omega arith, refl)
closed_fact (suc v) (suc x) d =
    elim (closed_fact v x (λ e. d (ap suc e))) [ inl h ↦ inl (omega arith, ap suc h.1) | inr h ↦ inr (omega arith, ap suc h.1) ]

abbrev Low : (ℕ → Bool) → ℕ → ℕ → (ℕ → ℕ) → Type 0
Low b n w f = (i : ℕ) → i < n → b i ≡ true → f i < w

-- f takes different values at the numbers below n that pass the test
abbrev pub Apart : {A : Type 0} → (ℕ → Bool) → ℕ → (ℕ → A) → Type 0
Apart b n f = (i k : ℕ) → i < k → k < n → b i ≡ true → b k ≡ true → f i ≡ f k → ⊥

more : (b : ℕ → Bool) (n : ℕ) → ((w : ℕ) (f : ℕ → ℕ) → Low b n w f → Apart b n f → count b n ≤ w) → (c : Bool) → b n ≡ c → (w : ℕ) (f : ℕ → ℕ) → Low b (suc n) w f → Apart b (suc n) f → bump c (count b n) ≤ w
more b n ih false e w f low apart = ih w f (λ i h. low i (omega arith)) (λ i k h g. apart i k h (omega arith))
more b n ih true e zero f low apart = let h : f n < 0 = low n (omega arith) e in omega arith
more b n ih true e (suc w) f low apart =
    let last : f n < suc w = low n (omega arith) e in
    let fact : (i : ℕ) → i < n → b i ≡ true → ((f i < f n) × (closed (f n) (f i) ≡ f i)) ⊎ ((f n < f i) × (suc (closed (f n) (f i)) ≡ f i))
    = λ i h t. closed_fact (f n) (f i) (apart i n h (omega arith) t e) in
    let rest : count b n ≤ w
    = ih w (λ i. closed (f n) (f i))
    (λ i h t. let p : f i < suc w = low i (omega arith) t in let q = fact i h t in omega arith)
    (λ i k h g t u z. let p = fact i (omega arith) t in let q = fact k g u in apart i k h (omega arith) t u (omega arith)) in
    omega arith

few_below : (b : ℕ → Bool) (n w : ℕ) (f : ℕ → ℕ) → Low b n w f → Apart b n f → count b n ≤ w
few_below b zero w f low apart = omega arith
few_below b (suc n) w f low apart = more b n (few_below b n) (b n) refl w f low apart

-- the least number below w that passes the test
pub record Least (b : ℕ → Bool) (w : ℕ) : Type 0 where
  pub at : ℕ
  pub below : at < w
  pub here : b at ≡ true
  pub not_before : (i : ℕ) → i < at → b i ≡ false

least_more : (b : ℕ → Bool) (w : ℕ) → Least b w ⊎ ((i : ℕ) → i < w → b i ≡ false) → (c : Bool) → b w ≡ c → Least b (suc w) ⊎ ((i : ℕ) → i < suc w → b i ≡ false)
least_more b w (inl f) c e = inl (record { at = f.at; below = let h = f.below in omega arith; here = f.here; not_before = f.not_before })
least_more b w (inr f) true e = inl (record { at = w; below = omega arith; here = e; not_before = f })
least_more b w (inr f) false e =
    inr (λ i h. elim (dec_lt i w) [ yes g ↦ f i g | no g ↦ let d : w ≡ i = omega arith in subst (λ k. b k ≡ false) d e ])

pub least : (b : ℕ → Bool) (w : ℕ) → Least b w ⊎ ((i : ℕ) → i < w → b i ≡ false)
least b zero = inr (λ i h. absurd (omega arith))
least b (suc w) = least_more b w (least b w) (b w) refl

module _ {A : Type 0} where
  -- a stands at the place i of the list
  abbrev pub At : List A → ℕ → A → Type 0
  At [] i a = ⊥
  At (x ∷ xs) zero a = x ≡ a
  At (x ∷ xs) (suc i) a = At xs i a

  abbrev pub In : List A → A → Type 0
  In xs a = (i : ℕ) × At xs i a

  at_below : (xs : List A) (i : ℕ) (a : A) → At xs i a → i < length xs
  at_below [] i a h = absurd h
  at_below (x ∷ xs) zero a h = omega arith
  at_below (x ∷ xs) (suc i) a h = let k = at_below xs i a h in omega arith

  at_same : (xs : List A) (i : ℕ) (a b : A) → At xs i a → At xs i b → a ≡ b
  at_same [] i a b h k = absurd h
  at_same (x ∷ xs) zero a b h k = sym h ∙ k
  at_same (x ∷ xs) (suc i) a b h k = at_same xs i a b h k

  at_left : (xs ys : List A) (i : ℕ) (a : A) → At xs i a → At (xs ++ ys) i a
  at_left [] ys i a h = absurd h
  at_left (x ∷ xs) ys zero a h = h
  at_left (x ∷ xs) ys (suc i) a h = at_left xs ys i a h

  pub in_left : (xs ys : List A) (a : A) → In xs a → In (xs ++ ys) a
  in_left xs ys a h = (h.0, at_left xs ys h.0 a h.1)

  pub in_right : (xs ys : List A) (a : A) → In ys a → In (xs ++ ys) a
  in_right [] ys a h = h
  in_right (x ∷ xs) ys a h = let k = in_right xs ys a h in (suc k.0, k.1)

  -- a place of f i, where there is one
  place : (b : ℕ → Bool) (n : ℕ) (xs : List A) (f : ℕ → A) → ((i : ℕ) → i < n → b i ≡ true → In xs (f i)) → (i : ℕ) → Dec (i < n) → (c : Bool) → b i ≡ c → (k : ℕ) × (i < n → b i ≡ true → At xs k (f i))
  place b n xs f listed i (yes g) true e = let k = listed i g e in (k.0, λ _ _. k.1)
  place b n xs f listed i (yes g) false e = (0, λ _ d. let z : ◌≡◌ {A = ℕ} 0 1 = cc in absurd (omega arith))
  place b n xs f listed i (no g) c e = (0, λ h _. absurd (g h))

  pub few_in : (b : ℕ → Bool) (n : ℕ) (xs : List A) (f : ℕ → A) → ((i : ℕ) → i < n → b i ≡ true → In xs (f i)) → Apart b n f → count b n ≤ length xs
  few_in b n xs f listed apart =
      let at : (i : ℕ) → (k : ℕ) × (i < n → b i ≡ true → At xs k (f i))
      = λ i. place b n xs f listed i (dec_lt i n) (b i) refl in
      few_below b n (length xs) (λ i. (at i).0)
      (λ i h t. at_below xs (at i).0 (f i) ((at i).1 h t))
      (λ i k h g t u e. apart i k h g t u
      (at_same xs (at i).0 (f i) (f k) ((at i).1 (omega arith) t) (subst (λ c. At xs c (f k)) (sym e) ((at k).1 g u))))
