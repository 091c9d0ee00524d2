use Rattle.std.proofs.Common.{ℤ, refl, arith}
use Rattle.std.proofs.lemmas.Int.{ints}
use Rattle.machine.specs.declared.addition.Addition.{Addition}
use Rattle.machine.specs.Additions.{Standing, standing}
use Rattle.machine.specs.Walks.{Place, place}
use Rattle.machine.proofs.Counted.{answered, out_and_back}
use Rattle.machine.proofs.worked.out_and_back.Goals as goal

abbrev at : Addition → ℤ → Place Standing
at m s = place (standing m.a m.b m.direction) s

pub returns : goal.returns
returns c =
    let new = c.new-walk.result in
    let out = c.forward-forward.new.self in
    let home = c.back-back.new.self in
    let is = c.sum.ensures in
    record {
      value = answered (at new.machine new.sum.value) (at out.machine out.sum.value) (at home.machine home.sum.value) c.forward-forward.result c.back-back.result _ (rw (c.new-walk.ensures.0, c.new-walk.ensures.1) refl) c.forward-forward.ensures c.back-back.ensures (omega (arith, ints));
      computed = out_and_back;
    }
