use Rattle.reading.proofs.NumberLoop.{number_turns}
use Rattle.reading.proofs.Cursor.long_number.Goals as goal

pub loop-i-init : goal.loop-i-init
loop-i-init c = search number_turns

pub returns-then-b-le-GREATEST_FIFTH : goal.returns-then-b-le-GREATEST_FIFTH
returns-then-b-le-GREATEST_FIFTH c = search number_turns

pub returns-then-more-eq0 : goal.returns-then-more-eq0
returns-then-more-eq0 c = search number_turns

pub overflow_mul-result-then-b-lt-FOLLOWED : goal.overflow_mul-result-then-b-lt-FOLLOWED
overflow_mul-result-then-b-lt-FOLLOWED c = search number_turns

pub overflow_add-result-then-b-lt-FOLLOWED : goal.overflow_add-result-then-b-lt-FOLLOWED
overflow_add-result-then-b-lt-FOLLOWED c = search number_turns

pub returns-then-b-lt-FOLLOWED : goal.returns-then-b-lt-FOLLOWED
returns-then-b-lt-FOLLOWED c = search number_turns

pub overflow_mul-value : goal.overflow_mul-value
overflow_mul-value c = search number_turns

pub overflow_add-value : goal.overflow_add-value
overflow_add-value c = search number_turns

pub overflow_mul-weight : goal.overflow_mul-weight
overflow_mul-weight c = search number_turns

pub loop-i-preserved : goal.loop-i-preserved
loop-i-preserved c = search number_turns

pub returns : goal.returns
returns c = search number_turns
