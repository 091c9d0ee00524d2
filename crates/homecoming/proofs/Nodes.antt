-- What a question does at one node, by the node's kind.
use Rattle.std.proofs.Common.{◌≡◌, ℕ, ◌+◌, ◌<◌, Bool, true, false, cond, eqb, List, [], ◌∷◌, Some, None, Option, sym, refl, ap, subst, arith}
use Rattle.std.proofs.lemmas.Bool.Decides.{nat_tests}
use Rattle.cells.specs.declared.kinds.Kind.{Kind}
use Rattle.cells.specs.declared.kinds.Kind.TheVariants.{Root, Number, Successor, Multiplexer, Iterator, LeftCounter, RightCounter, Transfer}
use Rattle.cells.specs.declared.kinds.Port.{Port}
use Rattle.cells.specs.declared.kinds.Port.TheVariants.{First, Second, Third}
use Rattle.cells.specs.Ports.{kind_number, arity, offset}
use Rattle.cells.proofs.Ports.{same_kind}
use Rattle.calculus.specs.Types.{Ty}
use Rattle.token.specs.declared.memory.Letter.{Letter}
use Rattle.token.specs.declared.memory.Letter.TheVariants.{Left, Right}
use Rattle.token.specs.declared.memory.DataCell.{DataCell}
use Rattle.token.specs.declared.memory.DataCell.TheVariants as dat
use Rattle.token.specs.Table.{Stacks, with_letters, Row, table, changed}
use Rattle.token.specs.State.{only_datas}
use Rattle.token.specs.Next.{first_row}
use Rattle.geometry.specs.Labels.{Sign, plus, opposite, Label, on, flip, Fits, at_root, at_number, at_successor, at_function, at_pair, at_iterator, at_left_counter, at_right_counter, at_transfer, Plain}
use Rattle.homecoming.proofs.Letters.{Leads, Asks, twice_opposite, no_question}

abbrev pub is_kind : Kind → Option Kind → Bool
is_kind κ None = false
is_kind κ (Some ι) = eqb (kind_number κ) (kind_number ι)

pub is_kind_lem : (κ : Kind) (o : Option Kind) → is_kind κ o ≡ true → o ≡ Some κ
is_kind_lem κ None e = let z : ◌≡◌ {A = ℕ} 0 1 = cc in absurd (omega arith)
is_kind_lem κ (Some ι) e =
    let same : kind_number ι ≡ kind_number κ = grind (arith, nat_tests) in
    ap Some (same_kind ι κ same)

-- the port by which what comes to a port leaves, and the letters then; the same way leads back
abbrev pub across : Option Kind → Port → List Letter → Port × List Letter
across None p s = (p, s)
across (Some Root) p s = (p, s)
across (Some Number) p s = (p, s)
across (Some Successor) First s = (Second, s)
across (Some Successor) Second s = (First, s)
across (Some Successor) Third s = (Third, s)
across (Some Multiplexer) First [] = (First, [])
across (Some Multiplexer) First (Left ∷ s) = (Second, s)
across (Some Multiplexer) First (Right ∷ s) = (Third, s)
across (Some Multiplexer) Second s = (First, Left ∷ s)
across (Some Multiplexer) Third s = (First, Right ∷ s)
across (Some Iterator) p s = (p, s)
across (Some LeftCounter) p s = (p, s)
across (Some RightCounter) p s = (p, s)
across (Some Transfer) p s = (p, s)

pub across_twice : (o : Option Kind) (p : Port) (s : List Letter) → across o (across o p s).0 (across o p s).1 ≡ (p, s)
across_twice None p s = refl
across_twice (Some Root) p s = refl
across_twice (Some Number) p s = refl
across_twice (Some Successor) First s = refl
across_twice (Some Successor) Second s = refl
across_twice (Some Successor) Third s = refl
across_twice (Some Multiplexer) First [] = refl
across_twice (Some Multiplexer) First (Left ∷ s) = refl
across_twice (Some Multiplexer) First (Right ∷ s) = refl
across_twice (Some Multiplexer) Second s = refl
across_twice (Some Multiplexer) Third s = refl
across_twice (Some Iterator) p s = refl
across_twice (Some LeftCounter) p s = refl
across_twice (Some RightCounter) p s = refl
across_twice (Some Transfer) p s = refl

abbrev pub among : {A : Type 0} → A → A → A → Port → A
among a b c First = a
among a b c Second = b
among a b c Third = c

-- a token's stacks with nothing on i and on the shelves
abbrev pub stacked : List Letter → List DataCell → Stacks
stacked s d = with_letters s (only_datas d)

-- the token's table has a row for what comes to the port, by which it leaves so
pub record Acts (κ : Kind) (p : Port) (v : ℕ) (s : Stacks) (o : Port) (t : Stacks) : Type 0 where
  pub row : Row
  pub found : first_row κ p v s table ≡ Some row
  pub exit : row.exit ≡ o
  pub change : changed row.change v s ≡ t

-- a question at a successor puts one more on d, and its answer there adds one
abbrev pub deeper : Option Kind → List DataCell → List DataCell
deeper o d = cond (is_kind Successor o) (dat.Question ∷ d) d

abbrev pub raised : Option Kind → ℕ → ℕ
raised o a = cond (is_kind Successor o) (a + 1) a

-- the token with the question crosses the node, and crosses it back with the answer
pub record Crosses (κ : Kind) (p : Port) (s : List Letter) (o : Port × List Letter) : Type 0 where
  pub out : (v : ℕ) (d : List DataCell) → Acts κ p v (stacked s (dat.Question ∷ d)) o.0 (stacked o.1 (dat.Question ∷ deeper (Some κ) d))
  pub back : (v : ℕ) (d : List DataCell) (a : ℕ) → Acts κ o.0 v (stacked o.1 (dat.Number a ∷ deeper (Some κ) d)) p (stacked s (dat.Number (raised (Some κ) a) ∷ d))

-- the question leaves by a port that the node has, as a question of the wire there
pub record Passed (κ : Kind) (a b c : Label) (p : Port) (s : List Letter) (o : Port × List Letter) : Type 0 where
  pub owned : offset o.0 < arity κ
  pub asks : Asks (flip (among a b c o.0)) o.1
  pub crosses : Crosses κ p s o

acts : {κ : Kind} {p : Port} {v : ℕ} {s : Stacks} (r : Row) → first_row κ p v s table ≡ Some r → Acts κ p v s r.exit (changed r.change v s)
acts r e = record { row = r; found = e; exit = refl; change = refl }

at_succ : (s : List Letter) → Crosses Successor Second s (First, s)
at_succ s = record { out = λ v d. acts _ refl; back = λ v d a. acts _ refl }

at_second : (s : List Letter) → Crosses Multiplexer Second s (First, Left ∷ s)
at_second s = record { out = λ v d. acts _ refl; back = λ v d a. acts _ refl }

at_third : (s : List Letter) → Crosses Multiplexer Third s (First, Right ∷ s)
at_third s = record { out = λ v d. acts _ refl; back = λ v d a. acts _ refl }

at_left : (s : List Letter) → Crosses Multiplexer First (Left ∷ s) (Second, s)
at_left s = record { out = λ v d. acts _ refl; back = λ v d a. acts _ refl }

at_right : (s : List Letter) → Crosses Multiplexer First (Right ∷ s) (Third, s)
at_right s = record { out = λ v d. acts _ refl; back = λ v d a. acts _ refl }

-- a number answers the question with its value, and sends it back
pub answers : (v : ℕ) (s : List Letter) (d : List DataCell) → Acts Number First v (stacked s (dat.Question ∷ d)) First (stacked s (dat.Number v ∷ d))
answers v s d = acts _ refl

module _ (x : Sign) (A : Ty) (s : List Letter) where
  -- at the other end of the wire that leaves by a port of the opposite sign
  same : (b : Label) → b ≡ on (opposite x) A → Leads A x s plus → Asks (flip b) s
  same b e h = subst (λ b. Asks (flip b) s) (sym e) (subst (λ y. Leads A y s plus) (sym (twice_opposite x)) h)

  arrives : (b : Label) → b ≡ on (opposite x) A → Asks b s → Leads A (opposite x) s plus
  arrives b e h = subst (λ b. Asks b s) e h

-- a question passes every node but a number
pub passes : (κ : Kind) (a b c : Label) → Fits κ a b c → Plain κ → is_kind Number (Some κ) ≡ false → (p : Port) → offset p < arity κ → (s : List Letter) → Asks (among a b c p) s → Passed κ a b c p s (across (Some κ) p s)
passes Root a b c at_root w e First h s q = absurd (no_question s q)
passes Root a b c at_root w e Second h s q = absurd (omega arith)
passes Root a b c at_root w e Third h s q = absurd (omega arith)
passes Number a b c at_number w e p h s q = let z : ◌≡◌ {A = ℕ} 0 1 = cc in absurd (omega arith)
passes Successor a b c at_successor w e First h s q = absurd (no_question s q)
passes Successor a b c at_successor w e Second h s q = record { owned = omega arith; asks = q; crosses = at_succ s }
passes Successor a b c at_successor w e Third h s q = absurd (omega arith)
passes Multiplexer a b c (at_function i) w e First h [] q = absurd q
passes Multiplexer a b c (at_function {s = x} {U = U} i) w e First h (Left ∷ s) q = record { owned = omega arith; asks = same x U s b i q; crosses = at_left s }
passes Multiplexer a b c (at_function i) w e First h (Right ∷ s) q = record { owned = omega arith; asks = q; crosses = at_right s }
passes Multiplexer a b c (at_function {s = x} {U = U} i) w e Second h s q = record { owned = omega arith; asks = arrives x U s b i q; crosses = at_second s }
passes Multiplexer a b c (at_function {s = x} {T = T} i) w e Third h s q =
    record { owned = omega arith; asks = subst (λ y. Leads T y s plus) (sym (twice_opposite x)) q; crosses = at_third s }
passes Multiplexer a b c (at_pair i j) w e First h [] q = absurd q
passes Multiplexer a b c (at_pair {s = x} {T = T} i j) w e First h (Left ∷ s) q = record { owned = omega arith; asks = same x T s b i q; crosses = at_left s }
passes Multiplexer a b c (at_pair {s = x} {U = U} i j) w e First h (Right ∷ s) q = record { owned = omega arith; asks = same x U s c j q; crosses = at_right s }
passes Multiplexer a b c (at_pair {s = x} {T = T} i j) w e Second h s q = record { owned = omega arith; asks = arrives x T s b i q; crosses = at_second s }
passes Multiplexer a b c (at_pair {s = x} {U = U} i j) w e Third h s q = record { owned = omega arith; asks = arrives x U s c j q; crosses = at_third s }
passes Iterator a b c at_iterator w e p h s q = absurd w
passes LeftCounter a b c at_left_counter w e p h s q = absurd w
passes RightCounter a b c at_right_counter w e p h s q = absurd w
passes Transfer a b c at_transfer w e p h s q = absurd w

-- no question comes to the root
pub not_root : (a b c : Label) → Fits Root a b c → (p : Port) → offset p < 1 → (s : List Letter) → Asks (among a b c p) s → ⊥
not_root a b c at_root First h s q = no_question s q
not_root a b c at_root Second h s q = omega arith
not_root a b c at_root Third h s q = omega arith

-- a question comes to a successor at its second port, with no letters
pub at_successor_node : (a b c : Label) → Fits Successor a b c → (p : Port) → offset p < 2 → (s : List Letter) → Asks (among a b c p) s → ◌≡◌ {A = Port × List Letter} (Second, []) (p, s)
at_successor_node a b c at_successor First h s q = absurd (no_question s q)
at_successor_node a b c at_successor Second h [] q = refl
at_successor_node a b c at_successor Second h (d ∷ s) q = absurd q
at_successor_node a b c at_successor Third h s q = absurd (omega arith)
