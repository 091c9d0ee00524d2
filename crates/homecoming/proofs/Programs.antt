-- From derivations to networks.
use Rattle.std.proofs.Common.{[], subst, arith}
use Rattle.calculus.specs.Types.{N}
use Rattle.calculus.specs.Terms.{Term}
use Rattle.calculus.specs.Typing.{Typed}
use Rattle.geometry.specs.Derivations.{label}
use Rattle.geometry.specs.Network.{network}
use Rattle.geometry.proofs.Soundness.{sound, network-length}
use Rattle.geometry.proofs.Labelling.{labelled, no_higher}
use Rattle.geometry.proofs.Weights.{weight_kept, successors-counted}
use Rattle.geometry.proofs.Values.{plain, numbers_kept}
use Rattle.token.specs.State.{Rooms}
use Rattle.homecoming.specs.Home.{Network, Suffices, Home}
use Rattle.homecoming.specs.Programs.{Program, Enough, ProgramsComeHome}
use Rattle.homecoming.proofs.Way.{comes_home}

-- a program's network is such as the token comes home from
pub networked : (t : Term) (d : Typed [] t N) → Program t → Network (network t) (label d)
networked t d p =
    let size = network-length t in
    let none = p.plain in
    let fits = p.few in
    record {
      numbered = omega arith;
      sound = sound t d (omega arith) (omega arith);
      labelled = labelled t d;
      plain = plain t none;
      small = numbers_kept t 1000000000 p.numbers;
    }

pub sufficed : (t : Term) (d : Typed [] t N) (rs : Rooms) → Enough d rs → Suffices (network t) (label d) rs
sufficed t d rs m =
    let signs = successors-counted t in
    let cells = m.datas in
    let high = m.letters in
    record { letters = λ q h. let low = no_higher t d q h in omega arith; datas = omega arith }

pub programs_come_home : ProgramsComeHome
programs_come_home t d rs p m =
    subst (λ w. Home (network t) rs w) (weight_kept t d p.plain) (comes_home (network t) (label d) rs (networked t d p) (sufficed t d rs m))
