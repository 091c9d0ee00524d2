-- What a write, one cell more and one cell less make of the cells below a height.
use Rattle.std.proofs.Common.{◌≡◌, ℕ, zero, suc, ◌+◌, ◌-◌, ◌<◌, ◌≤◌, min, List, [], ◌∷◌, Some, reverse, length, get_or, take, set, sym, refl, ap, ◌∙◌, arith}
use Rattle.std.proofs.lemmas.List.{take_all, length-take, take_more, take_more_set, reverse-append, length-reverse}
use Rattle.stack.specs.Cells.{stacked}
use Rattle.stack.specs.Edits.{top_of, rest_of, replaced}

-- how many cells lie below a height
pub stacked-count : {X : Type 0} (xs : List X) (n : ℕ) → length (stacked n xs) ≡ min n (length xs)
unfolding stacked
stacked-count xs n = length-reverse (take n xs) ∙ length-take n xs

pub stacked_none : {X : Type 0} (xs : List X) (n : ℕ) → n ≡ 0 → stacked n xs ≡ []
unfolding stacked
stacked_none xs n e = ap (λ k. reverse (take k xs)) e

-- the cell at n on top of those below it
stacked_more : {X : Type 0} (xs : List X) (n : ℕ) (d : X) → n < length xs → stacked (n + 1) xs ≡ get_or xs n d ∷ stacked n xs
unfolding stacked
stacked_more xs n d h = ap reverse (take_more xs n d h) ∙ reverse-append (take n xs) (get_or xs n d ∷ [])

pub stacked-last : {X : Type 0} (xs : List X) (n : ℕ) (d : X) → 0 < n → n ≤ length xs → stacked n xs ≡ get_or xs (n - 1) d ∷ stacked (n - 1) xs
stacked-last xs n d p h =
    let l : n - 1 < length xs = omega arith in
    let e : n ≡ (n - 1) + 1 = omega arith in
    ap (λ k. stacked k xs) e ∙ stacked_more xs (n - 1) d l

-- a write at the height, and one cell more
pub stacked-put : {X : Type 0} (xs : List X) (n : ℕ) (y : X) → n < length xs → stacked (n + 1) (set xs n y) ≡ y ∷ stacked n xs
unfolding stacked
stacked-put xs n y h = ap reverse (take_more_set xs n y h) ∙ reverse-append (take n xs) (y ∷ [])

-- one cell less
pub stacked_less : {X : Type 0} (xs : List X) (n : ℕ) → n ≤ length xs → stacked (n - 1) xs ≡ rest_of (stacked n xs)
unfolding stacked
stacked_less xs zero h = refl
stacked_less [] (suc n) h = let z : ⊥ = omega arith in elim z [ ]
stacked_less (x ∷ xs) (suc n) h = sym (ap rest_of (stacked-last (x ∷ xs) (suc n) x (omega arith) h))

-- a write at the top
pub stacked_replace : {X : Type 0} (xs : List X) (n : ℕ) (y : X) → 0 < n → n ≤ length xs → stacked n (set xs (n - 1) y) ≡ replaced y (stacked n xs)
stacked_replace [] n y p h = let z : ⊥ = omega arith in elim z [ ]
stacked_replace (x ∷ xs) n y p h =
    let l : n - 1 < length (x ∷ xs) = omega arith in
    let e : n ≡ (n - 1) + 1 = omega arith in
    ap (λ k. stacked k (set (x ∷ xs) (n - 1) y)) e
    ∙ stacked-put (x ∷ xs) (n - 1) y l
    ∙ sym (ap (replaced y) (stacked-last (x ∷ xs) n x p h))

-- the cell below the top
pub second_is : {X : Type 0} (xs : List X) (d : X) → 2 ≤ length xs → Some (get_or xs (length xs - 2) d) ≡ top_of (rest_of (reverse xs))
unfolding stacked
second_is xs d h =
    let n = length xs in
    let e : n - 2 ≡ n - 1 - 1 = omega arith in
    ap (λ k. Some (get_or xs k d)) e
    ∙ sym (ap (λ ys. top_of (rest_of (reverse ys))) (sym (take_all n xs (omega arith)))
    ∙ ap (λ ys. top_of (rest_of ys)) (stacked-last xs n d (omega arith) (omega arith))
    ∙ ap top_of (stacked-last xs (n - 1) d (omega arith) (omega arith)))
