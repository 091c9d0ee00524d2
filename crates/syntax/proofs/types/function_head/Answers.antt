use Rattle.std.proofs.Common.{refl, add-zero, length, vec_items}
use Rattle.syntax.proofs.types.function_head.Goals as goal

pub returns : goal.returns
returns c =
    let x = c.in_ok-binder.ensures in
    let a = rw x.3 at c.in_ok-rest.ensures in
    let y = rw a.1 at c.in_ok-annotation.ensures in
    let e = rw y.3 at c.in_ok-rest-2.ensures in
    let n = add-zero (length (vec_items c.args.program.now.types)) in
    let t = rw n at y.1 in
    ((x.0, y.0.0, y.0.1), rw (x.1, a.0, t, e.0) refl, record { binder = x.2; type = y.2 }, e.1)
