use Rattle.sharing.proofs.StoreLaws.{word_puts}
use Rattle.sharing.proofs.storing.put_word.Goals as goal

pub returns : goal.returns
returns c = search word_puts
