use Rattle.std.proofs.Common.{◌≡◌, suc, ◌+◌, ◌<◌, ◌≤◌, ◌⊎◌, length, get_or, vec_items, refl, inl, inr, arith, rules}
use Rattle.calculus.specs.Types.{N}
use Rattle.syntax.specs.Parse.{join}
use Rattle.syntax.proofs.TypeSteps.{type_n, type_n_full, type_open, type_open_full, type_other, held-join, held_n}
use Rattle.syntax.proofs.types.+brackets_read_type.Goals as goal
use Rattle.syntax.proofs.types.+brackets_read_type.Goals.{read_type-then-depth-ge-DEPTH-via-then-depth-ge-DEPTH, read_type-then-depth-ge-DEPTH-via-else-depth-ge-DEPTH+then-len-open-ge-SIGNS, read_type-in_default-via-then-rest-lt1, read_type-in_default-via-else-rest-lt1+in_default-1}

pub read_type-returns-then-depth-ge-DEPTH : goal.read_type-returns-then-depth-ge-DEPTH
read_type-returns-then-depth-ge-DEPTH t c =
    let rest = c.skip-rest.result.bytes.now in
    let n = length (vec_items c.args.program.now.types) + c.args.«open» in
    let full : (64 ≤ c.args.depth) ⊎ (2048 ≤ n) = elim c.then-depth-ge-DEPTH.branch [ read_type-then-depth-ge-DEPTH-via-then-depth-ge-DEPTH w ↦ inl w.if-depth-ge-DEPTH.true | read_type-then-depth-ge-DEPTH-via-else-depth-ge-DEPTH+then-len-open-ge-SIGNS w ↦ inr (omega (arith, w.len.ensures, w.if-len-open-ge-SIGNS.true, c.args.program.now.types.ok.0)) ] in
    let e = type_n_full c.args.rest.end c.args.rest.bytes.now rest c.skip-rest.ensures.bytes (search rules) c.args.depth n (search rules) full in
    cc

pub read_type-returns-then-depth-ge-DEPTH-2 : goal.read_type-returns-then-depth-ge-DEPTH-2
read_type-returns-then-depth-ge-DEPTH-2 t c =
    let rest = c.skip-rest.result.bytes.now in
    let n = length (vec_items c.args.program.now.types) + c.args.«open» in
    let e = type_open_full c.args.rest.end c.args.rest.bytes.now rest c.skip-rest.ensures.bytes (search rules) c.args.depth n (search rules) c.if-depth-ge-DEPTH-2.true in
    cc

pub read_type-returns-else-depth-ge-DEPTH-2 : goal.read_type-returns-else-depth-ge-DEPTH-2
read_type-returns-else-depth-ge-DEPTH-2 t c =
    let rest = c.skip-rest.result.bytes.now in
    let n = length (vec_items c.args.program.now.types) + c.args.«open» in
    let e = type_open c.args.rest.end c.args.rest.bytes.now rest c.skip-rest.ensures.bytes (search rules) c.args.depth n (search rules) c.if-depth-ge-DEPTH-2.false in
    let end : c.with-in-40.result.end ≡ c.args.rest.end = cc in
    rw e (rw (end, c.with-in-40.ensures.bytes) at c.brackets.ensures)

pub read_type-returns-else-len-open-ge-SIGNS : goal.read_type-returns-else-len-open-ge-SIGNS
read_type-returns-else-len-open-ge-SIGNS t c =
    let rest = c.skip-rest.result.bytes.now in
    let n = length (vec_items c.args.program.now.types) + c.args.«open» in
    let few : n < 2048 = omega (arith, c.len.ensures, c.if-len-open-ge-SIGNS.false, c.args.program.now.types.ok.0) in
    let e = type_n c.args.rest.end c.args.rest.bytes.now rest c.skip-rest.ensures.bytes (search rules) c.args.depth n (search rules) c.if-depth-ge-DEPTH.false few in
    ((N, suc n), cc, held_n c.args.«open» c.args.program.now c.put_type-at.new.self c.put_type-at.result few c.put_type-at.ensures, cc)

pub read_type-returns-in_default : goal.read_type-returns-in_default
read_type-returns-in_default t c =
    let rest = c.skip-rest.result.bytes.now in
    let n = length (vec_items c.args.program.now.types) + c.args.«open» in
    let none : 1 ≤ length rest → (get_or rest 0 0 ≡ 78 → ⊥) × (get_or rest 0 0 ≡ 40 → ⊥) =
    λ h. elim c.in_default.branch [ read_type-in_default-via-then-rest-lt1 w ↦ absurd (search rules) | read_type-in_default-via-else-rest-lt1+in_default-1 w ↦ (λ x. search rules, λ x. search rules) ] in
    let e = type_other c.args.rest.end c.args.rest.bytes.now rest c.skip-rest.ensures.bytes c.args.depth n none in
    cc

pub brackets-returns : goal.brackets-returns
brackets-returns t c =
    let x = c.in_ok-first.ensures in
    let n : x.0.1 ≡ c.len.result + c.args.«open» = omega (arith, c.len.ensures, x.2.counted, c.read_type.new.program.types.ok.0) in
    let j = rw x.3 at c.in_ok-joint.ensures in
    let m : suc (c.len.result + c.args.«open») ≡ length (vec_items c.read_type.new.program.types) + (c.args.«open» + 1) = omega (arith, n, x.2.counted) in
    let y = rw j.3 at c.in_ok-second.ensures in
    let e = rw y.3 at c.in_ok-rest.ensures in
    let z = rw (c.cell.ensures, ← j.2) at c.put_type.ensures in
    ((join j.0 x.0.0 y.0.0, y.0.1), rw (x.1, n, j.1, m, y.1, e.0) refl, held-join j.0 c.args.«open» c.args.program.now c.read_type.new.program c.read_type-2.new.program c.put_type.new.self x.0 y.0 c.in_ok-first.first c.in_ok-second.second c.put_type.result x.2 y.2 z, e.1)
