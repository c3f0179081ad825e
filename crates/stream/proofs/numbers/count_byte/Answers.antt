use Rattle.stream.proofs.Leaves.{counting}
use Rattle.stream.proofs.numbers.count_byte.Goals as goal

pub overflow_mul-result : goal.overflow_mul-result
overflow_mul-result c = search counting

pub overflow_add-result : goal.overflow_add-result
overflow_add-result c = search counting

pub returns-then-digit-lt-FOLLOWED : goal.returns-then-digit-lt-FOLLOWED
returns-then-digit-lt-FOLLOWED c = search counting

pub overflow_mul-result-then-come-lt-MOST_FOLLOWING : goal.overflow_mul-result-then-come-lt-MOST_FOLLOWING
overflow_mul-result-then-come-lt-MOST_FOLLOWING c = search counting

pub overflow_add-result-then-come-lt-MOST_FOLLOWING : goal.overflow_add-result-then-come-lt-MOST_FOLLOWING
overflow_add-result-then-come-lt-MOST_FOLLOWING c = search counting

pub returns-then-come-lt-MOST_FOLLOWING : goal.returns-then-come-lt-MOST_FOLLOWING
returns-then-come-lt-MOST_FOLLOWING c = search counting

pub overflow_mul-result-then-digit-le-GREATEST_FIFTH : goal.overflow_mul-result-then-digit-le-GREATEST_FIFTH
overflow_mul-result-then-digit-le-GREATEST_FIFTH c = search counting

pub overflow_add-result-then-digit-le-GREATEST_FIFTH : goal.overflow_add-result-then-digit-le-GREATEST_FIFTH
overflow_add-result-then-digit-le-GREATEST_FIFTH c = search counting

pub returns-then-digit-le-GREATEST_FIFTH : goal.returns-then-digit-le-GREATEST_FIFTH
returns-then-digit-le-GREATEST_FIFTH c = search counting

pub returns : goal.returns
returns c = search counting
