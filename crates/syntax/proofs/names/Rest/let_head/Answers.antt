use Rattle.std.proofs.Common.{refl}
use Rattle.syntax.proofs.names.Rest.let_head.Goals as goal

pub returns : goal.returns
returns c =
    let a = c.in_ok-rest.ensures in
    let x = rw a.1 at c.in_ok-first.ensures in
    let b = rw x.3 at c.in_ok-rest-2.ensures in
    let y = rw b.1 at c.in_ok-second.ensures in
    let d = rw y.3 at c.in_ok-rest-3.ensures in
    let f = rw d.1 at c.in_ok-rest-4.ensures in
    ((x.0, y.0), rw (a.0, x.1, b.0, y.1, d.0, f.0) refl, (x.2, y.2), f.1)
