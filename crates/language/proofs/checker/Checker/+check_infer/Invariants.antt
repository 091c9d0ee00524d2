use Rattle.std.proofs.Common.{◌+◌, ◌*◌}
use Rattle.language.proofs.checker.Checker.+check_infer.Given as goal

abbrev pub decreases-check : goal.decreases-check
decreases-check l = 3 * l.i + 2

abbrev pub decreases-infer : goal.decreases-infer
decreases-infer l = 3 * l.i + 1

abbrev pub decreases-infer_successor : goal.decreases-infer_successor
decreases-infer_successor l = 3 * l.i

abbrev pub decreases-infer_function : goal.decreases-infer_function
decreases-infer_function l = 3 * l.i

abbrev pub decreases-infer_application : goal.decreases-infer_application
decreases-infer_application l = 3 * l.i

abbrev pub decreases-infer_pair : goal.decreases-infer_pair
decreases-infer_pair l = 3 * l.i

abbrev pub decreases-infer_let : goal.decreases-infer_let
decreases-infer_let l = 3 * l.i

abbrev pub decreases-infer_iterator : goal.decreases-infer_iterator
decreases-infer_iterator l = 3 * l.i
