-- Rules R16.2 and R16.6 of docs/RULES.md.
-- A payload in blocks of 512 bytes: 508 of payload, zeros behind its end, then the check.
use Rattle.std.specs.Prelude.{ℕ, zero, suc, ◌+◌, ◌-◌, ◌*◌, ◌/◌, ◌%◌, Bool, true, false, ◌&&◌, List, [], ◌∷◌, ◌++◌, length, take, drop, replicate}
use Rattle.format.specs.Bytes.{same}

-- the sum of the little_endian_lem words of four bytes
unfoldable pub words : List ℕ → ℕ
words (a ∷ b ∷ c ∷ d ∷ rest) = (a + 256 * b + 65536 * c + 16777216 * d) + words rest
words [] = 0
words (a ∷ []) = 0
words (a ∷ b ∷ []) = 0
words (a ∷ b ∷ c ∷ []) = 0

unfoldable pub little_endian : ℕ → List ℕ
little_endian n = n % 256 ∷ n / 256 % 256 ∷ n / 65536 % 256 ∷ n / 16777216 % 256 ∷ []

unfoldable pub check : List ℕ → List ℕ
check body = little_endian (words body % 4294967296)

unfoldable pub right : List ℕ → Bool
right block = same (drop 508 block) (check (take 508 block))

-- what one block keeps of a payload that begins with this, filled up with zeros
unfoldable pub body : List ℕ → List ℕ
body p = take 508 p ++ replicate (508 - length (take 508 p)) 0

unfoldable pub seal : List ℕ → List ℕ
seal p = body p ++ check (body p)

-- the blocks of a payload of this length beyond the first; an empty one takes one block too
unfoldable pub extra : ℕ → ℕ
extra n = (n - 1) / 508

unfoldable pub need : ℕ → ℕ
need n = suc (extra n)

unfoldable pub scatter_in : ℕ → List ℕ → List (List ℕ)
scatter_in zero p = []
scatter_in (suc k) p = seal p ∷ scatter_in k (drop 508 p)

unfoldable pub scatter : List ℕ → List (List ℕ)
scatter p = scatter_in (need (length p)) p

unfoldable pub bodies : ℕ → List (List ℕ) → List ℕ
bodies zero blocks = []
bodies (suc k) [] = []
bodies (suc k) (b ∷ bs) = take 508 b ++ bodies k bs

-- the payload of this length whose first block is the first of these
unfoldable pub gather : ℕ → List (List ℕ) → List ℕ
gather n blocks = take n (bodies (need n) blocks)

-- every one of the first k blocks is there and has a right check
unfoldable pub are_all_right : ℕ → List (List ℕ) → Bool
are_all_right zero blocks = true
are_all_right (suc k) [] = false
are_all_right (suc k) (b ∷ bs) = right b && are_all_right k bs

-- A store of bytes and its blocks

unfoldable pub cut : ℕ → List ℕ → List (List ℕ)
cut zero bytes = []
cut (suc n) bytes = take 512 bytes ∷ cut n (drop 512 bytes)

unfoldable pub join : List (List ℕ) → List ℕ
join [] = []
join (b ∷ bs) = b ++ join bs
