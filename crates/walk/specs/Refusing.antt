-- Why words ask for no walk. Assumes nothing.
use Rattle.std.specs.Prelude.{◌≡◌, ℕ, true, false, List, ◌++◌, codes, Ok, Err, Result}
use Rattle.walk.specs.declared.plan.Wanted.{Wanted}
use Rattle.walk.specs.declared.plan.Plan.{Plan}
use Rattle.walk.specs.declared.plan.NoPlan.{NoPlan}
use Rattle.walk.specs.declared.plan.NoPlan.TheVariants.{NoNumber, Memory}
use Rattle.walk.specs.declared.plan.NoPlan.TheVariants as no
use Rattle.walk.specs.Words.{TakenWord, Taken, NotKnown}

-- what is said of it
abbrev pub told_text : NoPlan → List ℕ
told_text (no.NotKnown word) = codes "not known here: " ++ word.now
told_text NoNumber = codes "not known here: the end, for a number"
told_text (Memory error) = codes "out of memory"

-- a word was taken where no number is wanted, or is not known; only for want of memory nothing is said
abbrev pub TookWord : Wanted → List ℕ → Plan → Plan → Result (Unit {0}) NoPlan → Type 0
TookWord q w p p' (Ok x) = TakenWord q w p p' true
TookWord q w p p' (Err (no.NotKnown word)) = (word.now ≡ w) × ((z : Plan) × TakenWord q w p z false)
TookWord q w p p' (Err NoNumber) = ⊥
TookWord q w p p' (Err (Memory error)) = Unit {0}

-- the same, whatever is wanted
abbrev pub Took : Wanted → List ℕ → Plan → Plan → Result (Unit {0}) NoPlan → Type 0
Took q w p p' (Ok x) = Taken q w p p' true
Took q w p p' (Err (no.NotKnown word)) = (word.now ≡ w) × ((z : Plan) × Taken q w p z false)
Took q w p p' (Err NoNumber) = ⊥
Took q w p p' (Err (Memory error)) = Unit {0}

-- what is not known is named; only for want of memory nothing is said
abbrev pub Unplanned : List (List ℕ) → NoPlan → Type 0
Unplanned ws (no.NotKnown word) = NotKnown ws word.now
Unplanned ws NoNumber = NotKnown ws (codes "the end, for a number")
Unplanned ws (Memory error) = Unit {0}
