-- What the code hands back of the list of bodies. Assumes nothing.
use Rattle.std.specs.Prelude.{ℕ, suc, ◌+◌, ◌≤◌, ◌<◌, List, ◌≡◌, Option, Ok, Err, Some, None}
use Rattle.std.proofs.Math.Option.{none, some}
use Rattle.format.specs.Numbers.{limit32}
use Rattle.format.specs.Older.{times}
use Rattle.format.specs.Parts.{Part, sized}
use Rattle.format.specs.Reading.{◌>>◌, Reader, return, Judged, accepted, refused, judge}
use Rattle.format.specs.Refusals.{number_of}
use Rattle.reading.specs.Cursors.{Inside, left, part_of}
use Rattle.reading.specs.Standing.{Stands}
use Rattle.reading.specs.declared.Cursor.{Cursor}
use Rattle.branches.specs.Bodies.{bodies, body_of}
use Rattle.branches.specs.Branches.{function_bodies}
use Rattle.branches.specs.declared.bodies.Bodies.{Bodies}
use Rattle.branches.specs.Returned.{BodiesRead}

-- so many bodies, passed over
unfoldable pub pass_bodies : (n : ℕ) → Reader ℕ
pass_bodies n = times sized n >> return n

-- the bodies that were accepted stand there
pub record Standing (s : List ℕ) (judged : Judged (List Part)) (next : Cursor) (n : ℕ) : Type 0 where
  pub parts : List Part
  pub last : Cursor
  pub are : judged ≡ accepted parts
  pub stand : Stands (times sized n) s next parts last

abbrev pub BodiesSaid : List ℕ → Judged (List Part) → BodiesRead → Type 0
BodiesSaid s judged (Ok (next, n)) = Standing s judged next n
BodiesSaid s judged (Err r) = judged ≡ refused (number_of r.reason) r.offset.0

pub record JudgesBodies (s : List ℕ) (c : Cursor) (r : BodiesRead) : Type 0 where
  pub says : BodiesSaid s (judge (bodies c.at (left s c))) r

-- all bodies of a module
pub record AllBodies (m : List ℕ) (r : BodiesRead) : Type 0 where
  pub says : BodiesSaid m (function_bodies m) r

-- The bodies that are still to come stand there; there are not so many that a function's index is not one of 32 bits and one more
pub record Kept (s : List ℕ) (all : Bodies) : Type 0 where
  pub parts : List Part
  pub last : Cursor
  pub stand : Stands (times sized all.more) s all.next parts last
  pub few : all.first + all.more ≤ limit32 + limit32

-- from a function on, bodies are found in the one list as in the other
abbrev pub SameFrom : (function : ℕ) (first : ℕ) → List Part → (first' : ℕ) → List Part → Type 0
SameFrom function first parts first' parts' = (f : ℕ) → function ≤ f → body_of first parts f ≡ body_of first' parts' f

-- the bodies before a function are passed: its own is the next, if it is there
pub record PassesTo (s : List ℕ) (all : Bodies) (function : ℕ) (r : Bodies) : Type 0 where
  pub kept : Kept s all
  pub left : Kept s r
  pub same : SameFrom function all.first kept.parts r.first left.parts
  pub arrives : (0 < r.more → function ≤ r.first)
  pub not_past : all.first ≤ function → r.first ≤ function

-- a body that is found, and the bodies behind it
pub record Finding (s : List ℕ) (all : Bodies) (function : ℕ) (parts : List Part) (body : Cursor) (behind : Bodies) : Type 0 where
  pub is : body_of all.first parts function ≡ some (part_of s body)
  pub inside : Inside s body
  pub left : Kept s behind
  pub same : SameFrom (suc function) all.first parts behind.first left.parts

abbrev pub LookedAs : List ℕ → Bodies → (function : ℕ) → List Part → Option (Cursor × Bodies) → Type 0
LookedAs s all function parts (Some (body, behind)) = Finding s all function parts body behind
LookedAs s all function parts None = body_of all.first parts function ≡ none

pub record Looks (s : List ℕ) (all : Bodies) (function : ℕ) (r : Option (Cursor × Bodies)) : Type 0 where
  pub kept : Kept s all
  pub says : LookedAs s all function kept.parts r
