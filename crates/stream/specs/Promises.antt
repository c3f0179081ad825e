-- THE PROMISES of the crate `stream`, each by the name of its function. They stand in the `ensures` of the public functions and nowhere else: what is shown of these names is shown of the functions. A promise relates what is lent to what comes back.
use Rattle.std.specs.Prelude.{ℕ, List, ◌≡◌}
use Rattle.stream.specs.Stream.{begin}
use Rattle.stream.specs.Fields.{held}
use Rattle.stream.specs.Calls.{taken, ended}
use Rattle.stream.specs.declared.Ended.{Ended}
use Rattle.stream.specs.declared.Stream.{Stream}
use Rattle.stream.specs.declared.Taken.{Taken}

-- stream
abbrev pub StreamBegin : Stream → Type 0
StreamBegin r = r ≡ held begin

abbrev pub StreamTakePart : (s : Stream) (part : List ℕ) → Taken → Type 0
StreamTakePart s part r = r ≡ taken s part

abbrev pub StreamFinish : (s : Stream) → Ended → Type 0
StreamFinish s r = r ≡ ended s
