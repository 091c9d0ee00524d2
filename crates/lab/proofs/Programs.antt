-- Accepted programs without iterator are such as come home.
use Rattle.std.proofs.Common.{◌≡◌, ℕ, ◌+◌, ◌≤◌, List, [], ◌∷◌, ◌++◌, refl, arith}
use Rattle.calculus.specs.Terms.{Term, var, num, succ, lam, app, pair, split, iter, subterms, successors, iterators, nodes}
use Rattle.calculus.specs.Typing.{weight, tallest}
use Rattle.syntax.specs.Trees.{Name, Binder, Tree, occ, num as number, succ as successor, lam as function, app as apply, pair as both, split as part, iter as repeat, erase}
use Rattle.syntax.specs.Grammar.{size, largest, Within}
use Rattle.syntax.specs.Names.{resolve}
use Rattle.geometry.specs.Derivations.{NumbersWithin}
use Rattle.geometry.specs.Network.{network}
use Rattle.cells.specs.Ports.{Node}
use Rattle.grammar.specs.Exactness.{Accepted}
use Rattle.token_machine.specs.Tokens.{capacities}
use Rattle.homecoming.specs.Home.{Home}
use Rattle.homecoming.specs.Programs.{Program}
use Rattle.homecoming.proofs.Programs.{networked, programs_come_home}
use Rattle.homecoming.proofs.Further.{further_nodes_do_no_harm}
use Rattle.network.specs.Building.{term_of}
use Rattle.lab.specs.Homecoming.{AcceptedComeHome}

-- without iterator a term makes at most a node for each sub-term
few_nodes : (t : Term) → iterators t ≡ 0 → nodes t ≤ subterms t
few_nodes (var x) h = omega arith
few_nodes (num n) h = omega arith
few_nodes (succ t) h = let a = few_nodes t h in omega arith
few_nodes (lam x T t) h = let a = few_nodes t h in omega arith
few_nodes (app t u) h = let a = few_nodes t (omega arith) in let b = few_nodes u (omega arith) in omega arith
few_nodes (pair t u) h = let a = few_nodes t (omega arith) in let b = few_nodes u (omega arith) in omega arith
few_nodes (split x y t u) h = let a = few_nodes t (omega arith) in let b = few_nodes u (omega arith) in omega arith
few_nodes (iter t u v) h = absurd (omega arith)

-- it has no more S signs than sub-terms
few_successors : (t : Term) → successors t ≤ subterms t
few_successors (var x) = omega arith
few_successors (num n) = omega arith
few_successors (succ t) = let a = few_successors t in omega arith
few_successors (lam x T t) = let a = few_successors t in omega arith
few_successors (app t u) = let a = few_successors t in let b = few_successors u in omega arith
few_successors (pair t u) = let a = few_successors t in let b = few_successors u in omega arith
few_successors (split x y t u) = let a = few_successors t in let b = few_successors u in omega arith
few_successors (iter t u v) = let a = few_successors t in let b = few_successors u in let c = few_successors v in omega arith

-- the term of a tree has as many sub-terms as the tree
sizes : (σ : List Binder) (t : Tree Name) → subterms (erase (resolve σ t)) ≡ size t
sizes σ (occ p w) = refl
sizes σ (number p n) = refl
sizes σ (successor p t) = let a = sizes σ t in omega arith
sizes σ (function p x T t) = let a = sizes (σ ++ (x ∷ [])) t in omega arith
sizes σ (apply p t u) = let a = sizes σ t in let b = sizes σ u in omega arith
sizes σ (both p t u) = let a = sizes σ t in let b = sizes σ u in omega arith
sizes σ (part p x y t u) = let a = sizes σ t in let b = sizes (σ ++ (x ∷ y ∷ [])) u in omega arith
sizes σ (repeat p t u v) = let a = sizes σ t in let b = sizes σ u in let c = sizes σ v in omega arith

-- and no greater number
numbers : (b : ℕ) (σ : List Binder) (t : Tree Name) → largest t ≤ b → NumbersWithin b (erase (resolve σ t))
numbers b σ (occ p w) h = tt
numbers b σ (number p n) h = h
numbers b σ (successor p t) h = numbers b σ t h
numbers b σ (function p x T t) h = numbers b (σ ++ (x ∷ [])) t h
numbers b σ (apply p t u) h = (numbers b σ t (omega arith), numbers b σ u (omega arith))
numbers b σ (both p t u) h = (numbers b σ t (omega arith), numbers b σ u (omega arith))
numbers b σ (part p x y t u) h = (numbers b σ t (omega arith), numbers b (σ ++ (x ∷ y ∷ [])) u (omega arith))
numbers b σ (repeat p t u v) h = (numbers b σ t (omega arith), numbers b σ u (omega arith), numbers b σ v (omega arith))

plain_program : (t : Tree Name) → Within t → iterators (term_of t) ≡ 0 → Program (term_of t)
plain_program t w h =
    let few = few_nodes (term_of t) h in
    let same = sizes [] t in
    let most = w.subterms in
    record { plain = h; numbers = numbers 1000000000 [] t w.numbers; few = omega arith }

pub accepted_come_home : AcceptedComeHome
accepted_come_home text t a none rest rs enough =
    let d = a.derived.derived in
    let p = plain_program t a.within none in
    let home = programs_come_home (term_of t) d rs p enough in
    record {
      number = home.number;
      steps = home.steps;
      distance = further_nodes_do_no_harm (network (term_of t)) rest rs home.number home.steps (networked (term_of t) d p).sound home.distance;
      odd = home.odd;
      soon = home.soon;
    }

-- the limits on the memory in use are above what an accepted text can need
pub session_home : (text : List ℕ) (t : Tree Name) (a : Accepted text t) → iterators (term_of t) ≡ 0 → (rest : List Node) (letters iters datas shelves : ℕ) → tallest a.derived.derived ≤ letters → 1 + successors (term_of t) ≤ datas → Home (network (term_of t) ++ rest) (capacities letters iters datas shelves) (weight a.derived.derived)
session_home text t a none rest letters iters datas shelves high signs =
    let low = a.derived.low in
    let few = few_successors (term_of t) in
    let same = sizes [] t in
    let most = a.within.subterms in
    accepted_come_home text t a none rest (capacities letters iters datas shelves) (record { letters = omega arith; datas = omega arith })
