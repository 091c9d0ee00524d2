-- What some small texts are read as. Assumes nothing.
use Rattle.std.specs.Prelude.{◌≡◌, Ok, Err, codes}
use Rattle.calculus.specs.Types.{N}
use Rattle.syntax.specs.declared.refusal.Fault.TheVariants.{WrongSign, LargeNumber, Unbound, BoundTwice, UsedTwice, Unused}
use Rattle.syntax.specs.Trees.{occ, num, succ, lam, app}
use Rattle.syntax.specs.Names.{fault}
use Rattle.syntax.specs.Reads.{reads}

pub record Worked : Type 0 where
  pub largest : reads (codes "1000000000") ≡ Ok (num 0 1000000000)
  pub applied : reads (codes "(\\x:N.S x 3)") ≡ Ok (app 0 (lam 1 (record { place = 2; name = codes "x" }) N (succ 6 (occ 8 2))) (num 10 3))
  pub wrong_sign : reads (codes "(\\x:N.S x S)") ≡ Err (fault WrongSign 11)
  pub too_large : reads (codes "1000000001") ≡ Err (fault LargeNumber 0)
  pub no_binder : reads (codes "x") ≡ Err (fault Unbound 0)
  pub bound_twice : reads (codes "\\x:N.(\\x:N.x x)") ≡ Err (fault BoundTwice 7)
  pub used_twice : reads (codes "\\x:N.<x,x>") ≡ Err (fault UsedTwice 8)
  pub not_used : reads (codes "\\x:N.3") ≡ Err (fault Unused 1)
  pub second_inside : reads (codes "let <x,x> = <1,2> in x") ≡ Err (fault Unused 5)
