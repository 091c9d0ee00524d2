-- The words that ask for a walk, and what each makes of a plan. Assumes nothing.
use Rattle.std.specs.Prelude.{◌≡◌, ℕ, ◌^◌, ◌<◌, Bool, true, false, ◌⊎◌, List, [], ◌∷◌, ◌++◌, Some, None, vec_items, codes, Option, ◌≢◌}
use Rattle.std.specs.Str.Parse.{IsNumeral, digits_value, without_leading_plus}
use Rattle.runs.specs.declared.calls.Call.{Call}
use Rattle.runs.specs.declared.calls.Call.TheVariants as call
use Rattle.token.specs.declared.memory.DataCell.{DataCell}
use Rattle.token.specs.declared.memory.DataCell.TheVariants as dat
use Rattle.token_machine.specs.declared.queries.Query.{Query}
use Rattle.token_machine.specs.declared.queries.Query.TheVariants as query
use Rattle.lab.specs.Bounds.{line_room}
use Rattle.walk.specs.declared.plan.Counted.{Counted}
use Rattle.walk.specs.declared.plan.Counted.TheVariants.{Open, Forward, Back}
use Rattle.walk.specs.declared.plan.Wanted.{Wanted}
use Rattle.walk.specs.declared.plan.Wanted.TheVariants as wanted
use Rattle.walk.specs.declared.plan.Plan.{Plan}

-- the call that a word asks for by itself; a line is shown in a buffer that takes every line
abbrev pub Named : List ℕ → Option (Call Query) → Type 0
Named w (Some (call.Forward k)) = ⊥
Named w (Some (call.Back k)) = ⊥
Named w (Some call.Sum) = w ≡ codes "sum"
Named w (Some call.Probe) = w ≡ codes "probe"
Named w (Some call.BringBack) = w ≡ codes "bring-back"
Named w (Some call.Keep) = w ≡ codes "keep"
Named w (Some (call.Read (query.Show n))) = (w ≡ codes "show") × (n ≡ line_room)
Named w (Some (call.Read query.Number)) = w ≡ codes "number"
Named w None = (w ≢ codes "sum") × (w ≢ codes "probe") × (w ≢ codes "bring-back") × (w ≢ codes "keep") × (w ≢ codes "show") × (w ≢ codes "number")

-- the word that wants a number after it; `open` stands first or not at all
abbrev pub Wants : List ℕ → Wanted → Option Counted → Type 0
Wants w q (Some Open) = (w ≡ codes "open") × (q ≡ wanted.First)
Wants w q (Some Forward) = w ≡ codes "forward"
Wants w q (Some Back) = w ≡ codes "back"
Wants w q None = (w ≢ codes "forward") × (w ≢ codes "back") × (w ≡ codes "open" → q ≢ wanted.First)

-- the word is a number of 32 bits
pub record Figures (w : List ℕ) (n : ℕ) : Type 0 where
  pub digits : IsNumeral 10 (without_leading_plus w)
  pub fits : digits_value 10 (without_leading_plus w) < 2 ^ 32
  pub is : n ≡ digits_value 10 (without_leading_plus w)

-- a plan with other calls, another cell to open with, and another word wanted
pub record Becomes (p : Plan) (cs : List (Call Query)) (d : DataCell) (q : Wanted) : Type 0 where
  pub calls : vec_items p.calls ≡ cs
  pub first : p.first ≡ d
  pub wanted : p.wanted ≡ q

-- a word and the number after it
abbrev pub Counts : Counted → ℕ → Plan → Plan → Type 0
Counts Open n p p' = Becomes p' (vec_items p.calls) (dat.Number n) wanted.Word
Counts Forward n p p' = Becomes p' (vec_items p.calls ++ (call.Forward n ∷ [])) p.first wanted.Word
Counts Back n p p' = Becomes p' (vec_items p.calls ++ (call.Back n ∷ [])) p.first wanted.Word

-- where no number is wanted: what a known word makes of the plan, and which are not known
abbrev pub TakenWord : Wanted → List ℕ → Plan → Plan → Bool → Type 0
TakenWord q w p p' true = ((c : Call Query) × Named w (Some c) × Becomes p' (vec_items p.calls ++ (c ∷ [])) p.first wanted.Word) ⊎ ((k : Counted) × Wants w q (Some k) × Becomes p' (vec_items p.calls) p.first (wanted.Number k))
TakenWord q w p p' false = Named w None × Wants w q None

-- a word, by what is wanted: what a known one makes of the plan, and which are not known
abbrev pub Taken : Wanted → List ℕ → Plan → Plan → Bool → Type 0
Taken (wanted.Number k) w p p' true = (n : ℕ) × Figures w n × Counts k n p p'
Taken (wanted.Number k) w p p' false = (n : ℕ) → Figures w n → ⊥
Taken wanted.First w p p' b = TakenWord wanted.First w p p' b
Taken wanted.Word w p p' b = TakenWord wanted.Word w p p' b

-- a plan before any word
pub record IsBlank (p : Plan) : Type 0 where
  pub calls : vec_items p.calls ≡ []
  pub first : p.first ≡ dat.Question
  pub wanted : p.wanted ≡ wanted.First

-- these words, each known where it stands, led from p to another plan
pub data Led (p : Plan) : List (List ℕ) → Plan → Type 0 where
  none_yet : Led p [] p
  one_more : {ws : List (List ℕ)} {z : Plan} (w : List ℕ) (q : Plan) → Led p ws q → Taken q.wanted w q z true → Led p (ws ++ (w ∷ [])) z

-- all the words were taken, and no number is wanted at their end
pub record Planned (ws : List (List ℕ)) (p : Plan) : Type 0 where
  pub start : Plan
  pub blank : IsBlank start
  pub led : Led start ws p
  pub whole : (k : Counted) → p.wanted ≢ wanted.Number k

-- at a plan, with these words left: the first is not known there, or there is none where a number is wanted
abbrev pub Stops : Plan → List (List ℕ) → List ℕ → Type 0
Stops q [] told = (k : Counted) × (q.wanted ≡ wanted.Number k) × (told ≡ codes "the end, for a number")
Stops q (w ∷ ws) told = (told ≡ w) × ((z : Plan) × Taken q.wanted w q z false)

-- the words before were taken, and `told` names what is not known after them
pub record NotKnown (ws : List (List ℕ)) (told : List ℕ) : Type 0 where
  pub start : Plan
  pub blank : IsBlank start
  pub before : List (List ℕ)
  pub after : List (List ℕ)
  pub all : ws ≡ before ++ after
  pub reached : Plan
  pub led : Led start before reached
  pub stops : Stops reached after told
