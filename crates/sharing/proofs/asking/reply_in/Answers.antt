use Rattle.sharing.proofs.AskLaws.{lying_replies}
use Rattle.sharing.proofs.asking.reply_in.Goals as goal

pub slice_bounds-reply-end : goal.slice_bounds-reply-end
slice_bounds-reply-end c = search lying_replies

pub returns : goal.returns
returns c = search lying_replies
