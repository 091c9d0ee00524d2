use Rattle.std.proofs.Common.{◌+◌, ◌-◌, ◌*◌}
use Rattle.syntax.proofs.terms.+after_first_application_body_function_iterator_let_in_pair_successor_term.Given as goal

abbrev pub decreases-body : goal.decreases-body
decreases-body l = 4 * (128 - (l.at.depth + 1)) + 3

abbrev pub decreases-term : goal.decreases-term
decreases-term l = 4 * (128 - l.depth) + 2

abbrev pub decreases-after_first : goal.decreases-after_first
decreases-after_first l = 4 * (128 - l.at.depth) + 1

abbrev pub decreases-successor : goal.decreases-successor
decreases-successor l = 4 * (128 - l.at.depth)

abbrev pub decreases-function : goal.decreases-function
decreases-function l = 4 * (128 - l.at.depth)

abbrev pub decreases-application : goal.decreases-application
decreases-application l = 4 * (128 - l.at.depth)

abbrev pub decreases-pair : goal.decreases-pair
decreases-pair l = 4 * (128 - l.at.depth)

abbrev pub decreases-let_in : goal.decreases-let_in
decreases-let_in l = 4 * (128 - l.at.depth)

abbrev pub decreases-iterator : goal.decreases-iterator
decreases-iterator l = 4 * (128 - l.at.depth)
