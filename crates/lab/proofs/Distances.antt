-- The distance law of walks, from the run law and the token's distances.
use Rattle.std.proofs.Common.{◌≡◌, ℕ, suc, ◌↔◌, List, ℤ, pos, negsuc, Some, None, Ok, Option, sym, refl, ap, ◌∙◌, arith}
use Rattle.cells.specs.Ports.{Node}
use Rattle.machine.specs.declared.reasons.Reason.TheVariants.{Home}
use Rattle.machine.specs.Steps.{to, ends, then, go}
use Rattle.machine.specs.Lawful.{go_first, go_back}
use Rattle.machine.specs.Walks.{Place}
use Rattle.runs.specs.declared.calls.Call.TheVariants as call
use Rattle.runs.specs.declared.calls.Answer.{Answer}
use Rattle.runs.specs.declared.calls.Answer.TheVariants as answer
use Rattle.runs.specs.Runs.{History, Stands, Does, reads_of, RunLaw}
use Rattle.runs.proofs.Listing.{reads_once}
use Rattle.runs.proofs.Whole.{run_law}
use Rattle.token.specs.declared.memory.DataCell.{DataCell}
use Rattle.token.specs.declared.memory.DataCell.TheVariants.{Question}
use Rattle.token.specs.State.{Rooms, State, opened, turned, number_of}
use Rattle.token.specs.Next.{next}
use Rattle.token.proofs.Laws.{token_laws}
use Rattle.token.proofs.Distances.{distances_agree}
use Rattle.token_machine.specs.declared.tokens.Token.{Token}
use Rattle.token_machine.specs.declared.queries.Query.{Query}
use Rattle.token_machine.specs.declared.queries.Query.TheVariants as query
use Rattle.token_machine.specs.Readings.{Reading, number, reading_of, or_none}
use Rattle.token_machine.specs.Tokens.{state_of}
use Rattle.lab.specs.Distances.{TokenReads, Asked, Away, DistancesOfWalks}

-- the run law of tokens
pub token_run_law : RunLaw next turned TokenReads
token_run_law = run_law token_laws (reads_once state_of (λ (m : Token) z q. reading_of (state_of m) z q))

module _ (ns : List Node) (rs : Rooms) where
  -- the opening, turned, is home
  turned_ends : (d : DataCell) → next (turned (opened ns rs d)) ≡ ends Home
  unfolding next
  turned_ends d = refl

  -- no state comes before the opening
  none_before : (d : DataCell) (n : ℕ) (y : State) → go next (suc n) y ≡ to (opened ns rs d) → ⊥
  none_before d n y h =
      let back = go_back token_laws (suc n) y (opened ns rs d) h in
      let first = go_first next n (turned (opened ns rs d)) in
      let stop : go next (suc n) (turned (opened ns rs d)) ≡ ends Home = first ∙ ap (λ o. then o (go next n)) (turned_ends d) in
      let z : ◌≡◌ {A = ℕ} 0 1 = cc in
      omega arith

  abbrev start : State
  start = opened ns rs Question

  away : (s : ℤ) (y : State) (n : ℕ) → Stands next start s y → number_of y ≡ Some n → Away ns rs n s
  away (pos d) y n st h = record { distance = d; is = refl; reached = record { last = y; way = st.ahead d refl; number = h } }
  away (negsuc d) y n st h = absurd (none_before Question d y (st.behind (suc d) refl))

  there : (s : ℤ) (y : State) (n : ℕ) → Stands next start s y → Away ns rs n s → number_of y ≡ Some n
  there s y n st a =
      let here = st.ahead a.distance a.is in
      let last = a.reached.way in
      let same : y ≡ a.reached.last = cc in
      ap number_of same ∙ a.reached.number

  stands : {h : History Query Reading} {p : Place State} {ps : List ℤ} {f b : ℕ} → Asked ns rs h p ps f b → Stands next start p.sum p.state
  stands run = token_run_law.stands start run

  brings : {h : History Query Reading} {p : Place State} {ps : List ℤ} {f b : ℕ} → Asked ns rs h p ps f b → (n : ℕ) → (number_of p.state ≡ Some n) ↔ Away ns rs n p.sum
  brings {p = p} run n = (away p.sum p.state n (stands run), there p.sum p.state n (stands run))

-- the call number tells the number of the state
tells : {p q : Place State} {ps qs : List ℤ} {g c : ℕ} {a : Answer Reading} → Does next turned TokenReads p ps (call.Read query.Number) a q qs g c → a ≡ answer.Read (number (or_none (number_of p.state)))
tells (reads_of {p = p} r) = ap answer.Read (r.alike r.someone r.stands ∙ ap (λ s. number (or_none (number_of s))) r.stands)

some_told : (o : Option ℕ) (n : ℕ) → answer.Read (number (or_none o)) ≡ answer.Read (number (Ok n)) → o ≡ Some n
some_told None n e = let z : ◌≡◌ {A = ℕ} 0 1 = cc in absurd (omega arith)
some_told (Some m) n e = let same : m ≡ n = cc in ap Some same

pub distances_of_walks : DistancesOfWalks
distances_of_walks ns rs = record {
  brings = brings ns rs;
  returns = λ {p = p} {a = a} run does n.
      let told = tells does in
      let known = brings ns rs run n in (
        λ e. known.0 (some_told (number_of p.state) n (sym told ∙ e)),
        λ w. told ∙ ap (λ o. answer.Read (number (or_none o))) (known.1 w),
      );
  distances = distances_agree ns rs;
}
