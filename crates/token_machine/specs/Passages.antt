-- The table as a step goes through it: what is done to each stack, by the node's kind, the port of arrival and the tops. Assumes nothing.
use Rattle.std.specs.Prelude.{ℕ, ◌+◌, ◌-◌, cond, ◌&&◌, Some, None, Ok, Err, Option, Result, ◌==◌, nat_le, nat_lt}
use Rattle.cells.specs.declared.kinds.Kind.{Kind}
use Rattle.cells.specs.declared.kinds.Kind.TheVariants as kind
use Rattle.cells.specs.declared.kinds.Port.{Port}
use Rattle.cells.specs.declared.kinds.Port.TheVariants.{First, Second, Third}
use Rattle.machine.specs.declared.reasons.Reason.{Reason}
use Rattle.machine.specs.declared.reasons.Reason.TheVariants.{NoRow, Overflow}
use Rattle.stack.specs.declared.edits.Edit.{Edit}
use Rattle.stack.specs.declared.edits.Edit.TheVariants.{Keep, Push, Pop, Replace, Split, Join}
use Rattle.token.specs.declared.memory.Letter.{Letter}
use Rattle.token.specs.declared.memory.Letter.TheVariants.{Left, Right}
use Rattle.token.specs.declared.memory.Side.{Side}
use Rattle.token.specs.declared.memory.Side.TheVariants as side
use Rattle.token.specs.declared.memory.IterCell.{IterCell}
use Rattle.token.specs.declared.memory.IterCell.TheVariants as iter
use Rattle.token.specs.declared.memory.DataCell.{DataCell}
use Rattle.token.specs.declared.memory.DataCell.TheVariants as dat
use Rattle.token.specs.Table.{pair_on, count_of, kept_of}
use Rattle.token_machine.specs.declared.passages.Passage.{Passage}

-- the tops of the stacks, of i and d with the cell below, and the top of the shelf that the node's value names
pub record Tops : Type 0 where
  pub letter : Option Letter
  pub iters : Option IterCell × Option IterCell
  pub datas : Option DataCell × Option DataCell
  pub shelved : Option IterCell

abbrev pub passing : Edit Letter → Edit IterCell → Edit DataCell → Edit IterCell → Port → Passage
passing l i d s e = record { letters = l; iters = i; datas = d; shelf = s; exit = e }

abbrev pub on_letters : Edit Letter → Port → Passage
on_letters l e = passing l Keep Keep Keep e

abbrev pub on_iters : Edit IterCell → Port → Passage
on_iters i e = passing Keep i Keep Keep e

abbrev pub on_datas : Edit DataCell → Port → Passage
on_datas d e = passing Keep Keep d Keep e

abbrev pub one_more : ℕ → Result ℕ Reason
one_more a = cond (nat_lt a 4294967295) (Ok (a + 1)) (Err Overflow)

abbrev pub with_more : Result ℕ Reason → (ℕ → Passage) → Result Passage Reason
with_more (Ok n) f = Ok (f n)
with_more (Err w) f = Err w

abbrev pub at_number : ℕ → Port → Option DataCell → Result Passage Reason
at_number v First None = Err NoRow
at_number v First (Some dat.Question) = Ok (on_datas (Replace (dat.Number v)) First)
at_number v First (Some (dat.Number a)) = cond (a == v) (Ok (on_datas (Replace dat.Question) First)) (Err NoRow)
at_number v Second d = Err NoRow
at_number v Third d = Err NoRow

abbrev pub at_successor : Port → Option DataCell → Option DataCell → Result Passage Reason
at_successor First None u = Err NoRow
at_successor First (Some d) None = Err NoRow
at_successor First (Some dat.Question) (Some dat.Question) = Ok (on_datas Pop Second)
at_successor First (Some (dat.Number a)) (Some dat.Question) = with_more (one_more a) (λ n. on_datas (Join (dat.Number n)) Second)
at_successor First (Some d) (Some (dat.Number b)) = Err NoRow
at_successor Second None u = Err NoRow
at_successor Second (Some dat.Question) u = Ok (on_datas (Push dat.Question) First)
at_successor Second (Some (dat.Number a)) u = cond (nat_lt 0 a) (Ok (on_datas (Split dat.Question (dat.Number (a - 1))) First)) (Err NoRow)
at_successor Third d u = Err NoRow

abbrev pub at_multiplexer : Port → Option Letter → Result Passage Reason
at_multiplexer First None = Err NoRow
at_multiplexer First (Some Left) = Ok (on_letters Pop Second)
at_multiplexer First (Some Right) = Ok (on_letters Pop Third)
at_multiplexer Second l = Ok (on_letters (Push Left) First)
at_multiplexer Third l = Ok (on_letters (Push Right) First)

abbrev pub at_iterator : Port → Option IterCell → Option DataCell → Result Passage Reason
at_iterator First i None = Err NoRow
at_iterator First i (Some dat.Question) = Ok (on_datas Pop Second)
at_iterator First i (Some (dat.Number a)) = Ok (passing Keep (Push (iter.Number a)) Pop Keep Third)
at_iterator Second i d = Ok (on_datas (Push dat.Question) First)
at_iterator Third None d = Err NoRow
at_iterator Third (Some (iter.Number a)) d = Ok (passing Keep Pop (Push (dat.Number a)) Keep First)
at_iterator Third (Some (iter.Pair a b)) d = Err NoRow

abbrev pub at_counter : Side → Port → Option IterCell → Result Passage Reason
at_counter σ p None = Err NoRow
at_counter σ First (Some (iter.Number a)) = Err NoRow
at_counter σ First (Some (iter.Pair a b)) =
    cond (count_of σ a b == 0)
    (Ok (on_iters (Replace (iter.Number (kept_of σ a b))) Second))
    (Ok (on_iters (Replace (pair_on σ (count_of σ a b - 1) (kept_of σ a b))) Third))
at_counter σ Second (Some (iter.Number a)) = Ok (on_iters (Replace (pair_on σ 0 a)) First)
at_counter σ Second (Some (iter.Pair a b)) = Err NoRow
at_counter σ Third (Some (iter.Number a)) = Err NoRow
at_counter σ Third (Some (iter.Pair a b)) = with_more (one_more (count_of σ a b)) (λ n. on_iters (Replace (pair_on σ n (kept_of σ a b))) First)

abbrev pub on_shelf : Port → Option IterCell → Option IterCell → Result Passage Reason
on_shelf First i None = Err NoRow
on_shelf First i (Some c) = Ok (passing Keep (Push c) Keep Pop Second)
on_shelf Second None s = Err NoRow
on_shelf Second (Some c) s = Ok (passing Keep Pop Keep (Push c) First)
on_shelf Third i s = Err NoRow

abbrev pub at_transfer : ℕ → Port → Option IterCell → Option IterCell → Result Passage Reason
at_transfer v p i s = cond (nat_le 1 v && nat_le v 64) (on_shelf p i s) (Err NoRow)

abbrev pub through : Kind → ℕ → Port → Tops → Result Passage Reason
through kind.Root v p t = Err NoRow
through kind.Number v p t = at_number v p t.datas.0
through kind.Successor v p t = at_successor p t.datas.0 t.datas.1
through kind.Multiplexer v p t = at_multiplexer p t.letter
through kind.Iterator v p t = at_iterator p t.iters.0 t.datas.0
through kind.LeftCounter v p t = at_counter side.Left p t.iters.0
through kind.RightCounter v p t = at_counter side.Right p t.iters.0
through kind.Transfer v p t = at_transfer v p t.iters.0 t.shelved
