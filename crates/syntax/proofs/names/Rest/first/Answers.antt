use Rattle.std.proofs.Common.{◌≤◌, length, get_or, sym, refl, ap, ◌∙◌, arith, rules}
use Rattle.std.proofs.lemmas.Bool.Decides.{nat_tests}
use Rattle.syntax.specs.Parse.{refused}
use Rattle.syntax.proofs.TypeSteps.{mark_first}
use Rattle.syntax.proofs.FirstSteps.{NoTerm, by_none}
use Rattle.syntax.proofs.names.Rest.first.Goals as goal
use Rattle.syntax.proofs.names.Rest.first.Goals.{in_default-via-then-self-lt1, in_default-via-else-self-lt1+in_default+then-this-lt48, in_default-via-else-self-lt1+in_default+else-this-lt48+else-this-lt58+then-this-lt97, in_default-via-else-self-lt1+in_default+else-this-lt48+else-this-lt58+else-this-lt97+else-this-lt123}

pub returns-in-83 : goal.returns-in-83
returns-in-83 c =
    let e = mark_first c.args.self.end c.args.self.bytes.now c.args.self.bytes.now c.requires (search rules) 83 (search rules) refl refl in
    (λ fits part n m. rw (e, c.with.ensures.bytes) refl, c.with.ensures.end)

pub returns-in-92 : goal.returns-in-92
returns-in-92 c =
    let e = mark_first c.args.self.end c.args.self.bytes.now c.args.self.bytes.now c.requires (search rules) 92 (search rules) refl refl in
    (λ fits part n m. rw (e, c.with-in-92.ensures.bytes) refl, c.with-in-92.ensures.end)

pub returns-in-40 : goal.returns-in-40
returns-in-40 c =
    let e = mark_first c.args.self.end c.args.self.bytes.now c.args.self.bytes.now c.requires (search rules) 40 (search rules) refl refl in
    (λ fits part n m. rw (e, c.with-in-40.ensures.bytes) refl, c.with-in-40.ensures.end)

pub returns-in-60 : goal.returns-in-60
returns-in-60 c =
    let e = mark_first c.args.self.end c.args.self.bytes.now c.args.self.bytes.now c.requires (search rules) 60 (search rules) refl refl in
    (λ fits part n m. rw (e, c.with-in-60.ensures.bytes) refl, c.with-in-60.ensures.end)

pub returns-in_default : goal.returns-in_default
returns-in_default c =
    let s = c.args.self.bytes.now in
    let none : 1 ≤ length s → NoTerm (get_or s 0 0) = λ h. elim c.in_default.branch [
      | in_default-via-then-self-lt1 w ↦ absurd (search rules)
      | in_default-via-else-self-lt1+in_default+then-this-lt48 w ↦ record { letter = grind (arith, nat_tests); digit = grind (arith, nat_tests); s = λ e. search rules; lam = λ e. search rules; bracket = λ e. search rules; pair = λ e. search rules }
      | in_default-via-else-self-lt1+in_default+else-this-lt48+else-this-lt58+then-this-lt97 w ↦ record { letter = grind (arith, nat_tests); digit = grind (arith, nat_tests); s = λ e. search rules; lam = λ e. search rules; bracket = λ e. search rules; pair = λ e. search rules }
      | in_default-via-else-self-lt1+in_default+else-this-lt48+else-this-lt58+else-this-lt97+else-this-lt123 w ↦ record { letter = grind (arith, nat_tests); digit = grind (arith, nat_tests); s = λ e. search rules; lam = λ e. search rules; bracket = λ e. search rules; pair = λ e. search rules }
    ] in
    λ fits part n m. by_none c.args.self.end s fits part n m c.requires none ∙ ap refused (sym c.refuse.ensures)
