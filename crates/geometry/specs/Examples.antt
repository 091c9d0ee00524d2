-- Five programs and their networks, written out from the rules. Assumes nothing.
use Rattle.std.specs.Prelude.{◌≡◌, ℕ, ◌+◌, ◌*◌, ◌≤◌, List, [], ◌∷◌, Some}
use Rattle.cells.specs.declared.kinds.Kind.{Kind}
use Rattle.cells.specs.declared.kinds.Kind.TheVariants.{Root, Number, Successor, Multiplexer, Iterator, LeftCounter, RightCounter, Transfer}
use Rattle.cells.specs.Ports.{Node, absent}
use Rattle.calculus.specs.Types.{N, ◌⇒◌}
use Rattle.calculus.specs.Terms.{Term, var, num, succ, lam, app, pair, split, iter, iterators, nodes}
use Rattle.calculus.specs.Typing.{Typed, weight}
use Rattle.geometry.specs.Network.{network}

-- nodes with one, two and three ports
abbrev pub node₁ : Kind → ℕ → ℕ → Node
node₁ κ v a = record { kind = Some κ; value = v; one = a; two = absent; three = absent }

abbrev pub node₂ : Kind → ℕ → ℕ → ℕ → Node
node₂ κ v a b = record { kind = Some κ; value = v; one = a; two = b; three = absent }

abbrev pub node₃ : Kind → ℕ → ℕ → ℕ → Node
node₃ κ a b c = record { kind = Some κ; value = 0; one = a; two = b; three = c }

-- S 3
abbrev pub next_of_three : Term
next_of_three = succ (num 3)

abbrev pub net_next_of_three : List Node
net_next_of_three =
    node₁ Root 0 4
    ∷ (node₂ Successor 0 6 0
    ∷ (node₁ Number 3 3
    ∷ []))

-- (\x:N.S x 3)
abbrev pub applied : Term
applied = app (lam 0 N (succ (var 0))) (num 3)

abbrev pub net_applied : List Node
net_applied =
    node₁ Root 0 4
    ∷ (node₃ Multiplexer 6 0 12
    ∷ (node₃ Multiplexer 3 10 9
    ∷ (node₂ Successor 0 8 7
    ∷ (node₁ Number 3 5
    ∷ []))))

-- let <x,y> = <\z:N.z,7> in (x y)
abbrev pub taken_apart : Term
taken_apart = split 0 1 (pair (lam 2 N (var 2)) (num 7)) (app (var 0) (var 1))

abbrev pub net_taken_apart : List Node
net_taken_apart =
    node₁ Root 0 16
    ∷ (node₃ Multiplexer 6 15 17
    ∷ (node₃ Multiplexer 3 9 12
    ∷ (node₃ Multiplexer 7 11 10
    ∷ (node₁ Number 7 8
    ∷ (node₃ Multiplexer 4 0 5
    ∷ [])))))

-- iter 2 \x:N.S x 3
abbrev pub repeated : Term
repeated = iter (num 2) (lam 0 N (succ (var 0))) (num 3)

abbrev pub net_repeated : List Node
net_repeated =
    node₁ Root 0 4
    ∷ (node₃ Iterator 15 0 7
    ∷ (node₃ LeftCounter 9 5 14
    ∷ (node₃ RightCounter 6 24 13
    ∷ (node₃ Multiplexer 18 11 8
    ∷ (node₁ Number 2 3
    ∷ (node₃ Multiplexer 12 22 21
    ∷ (node₂ Successor 0 20 19
    ∷ (node₁ Number 3 10
    ∷ []))))))))

-- ((\f:(N>N).\a:N.iter 1 \y:N.iter 2 f y a \x:N.S x) 5): the wire of f passes two Transfer nodes, those of y and a one
abbrev pub nested : Term
nested = app (app (lam 0 (N ⇒ N) (lam 1 N (iter (num 1) (lam 2 N (iter (num 2) (var 0) (var 2))) (var 1)))) (lam 3 N (succ (var 3)))) (num 5)

abbrev pub net_nested : List Node
net_nested =
    node₁ Root 0 4
    ∷ (node₃ Multiplexer 7 0 66
    ∷ (node₃ Multiplexer 9 3 60
    ∷ (node₃ Multiplexer 6 12 54
    ∷ (node₃ Multiplexer 10 16 57
    ∷ (node₃ Iterator 27 13 19
    ∷ (node₃ LeftCounter 21 17 26
    ∷ (node₃ RightCounter 18 58 25
    ∷ (node₃ Multiplexer 30 23 20
    ∷ (node₁ Number 1 15
    ∷ (node₃ Multiplexer 24 34 51
    ∷ (node₃ Iterator 45 31 37
    ∷ (node₃ LeftCounter 39 35 44
    ∷ (node₃ RightCounter 36 52 43
    ∷ (node₃ Multiplexer 49 41 38
    ∷ (node₁ Number 2 33
    ∷ (node₂ Transfer 2 55 42
    ∷ (node₂ Transfer 2 32 40
    ∷ (node₂ Transfer 1 11 48
    ∷ (node₂ Transfer 1 14 22
    ∷ (node₃ Multiplexer 8 64 63
    ∷ (node₂ Successor 0 62 61
    ∷ (node₁ Number 5 5
    ∷ []))))))))))))))))))))))

-- their networks are these
pub record WrittenOut : Type 0 where
  pub of_next_of_three : network next_of_three ≡ net_next_of_three
  pub of_applied : network applied ≡ net_applied
  pub of_taken_apart : network taken_apart ≡ net_taken_apart
  pub of_repeated : network repeated ≡ net_repeated
  pub of_nested : network nested ≡ net_nested

-- their weights, where there is no iterator
pub record WeighedOut : Type 0 where
  pub two : (d : Typed [] next_of_three N) × (weight d ≡ 2)
  pub six : (d : Typed [] applied N) × (weight d ≡ 6)
  pub eleven : (d : Typed [] taken_apart N) × (weight d ≡ 11)

-- a closed program of type N that is small enough, with no more than 64 iterators
pub record Fitting (t : Term) : Type 0 where
  pub typed : Typed [] t N
  pub small : 3 * (1 + nodes t) ≤ 4294967295
  pub few : iterators t ≤ 64

-- they are all such programs, so that the theorems about these speak of something
pub record PremisesMet : Type 0 where
  pub by_next_of_three : Fitting next_of_three
  pub by_applied : Fitting applied
  pub by_taken_apart : Fitting taken_apart
  pub by_repeated : Fitting repeated
  pub by_nested : Fitting nested
