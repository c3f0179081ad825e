-- A table and a store that stand for a model.
use Rattle.std.specs.Prelude.{ℕ, suc, ◌+◌, ◌*◌, ◌/◌, ◌%◌, ◌≤◌, ◌<◌, ◌≡◌, true, List, ◌++◌, ◌≢◌, get_or, set}
use Rattle.std.proofs.Math.Path.{sym, ap₂}
use Rattle.std.proofs.Common.{ap, ◌∙◌, arith, set-set}
use Rattle.std.proofs.Math.Option.{none}
use Rattle.std.proofs.Math.ListN.{length}
use borrow.Author.Tests.{eq-eqb, lt-ltb, le-leb}
use Rattle.sharing.specs.Laws.Blocks.{Whole, cut_join, join_length}
use Rattle.sharing.specs.Blocks.{cut, join}
use Rattle.format.specs.Reading.{accepted}
use Rattle.sharing.specs.Model.{Payloads, Entry, Model}
use Rattle.sharing.specs.Table.{length_fits, Table, Mark, fits, blocks}
use Rattle.sharing.specs.Laws.Shelf.{Shelf, size, spread, blocks_of, marks_of, spread_length, blocks_width, At, at_right, at_left}
use Rattle.sharing.specs.Laws.Holds.{hit, count, count_set, Led, empty, Leads, leads_set, leads_again}
use Rattle.sharing.specs.Laws.Swaps.{between, Where, inside, outside, at_where}

-- the payload is one that a question still accepts
abbrev pub Fine : Payloads → List ℕ → Type 0
Fine P p = (r : List ℕ) × (P.canonical p ≡ accepted r)

-- The holds lead to the model's payloads; a row's users are the holds that lead to it; no payload has two rows
pub record Holding (P : Payloads) (sh : Shelf) (hs : List ℕ) (m : Model) : Type 0 where
  pub leads : Leads sh hs m
  pub users : (b u : ℕ) (p : List ℕ) → At b p u sh → suc u ≡ count (suc b) hs
  pub alone : (b d u v : ℕ) (p : List ℕ) → At b p u sh → At d p v sh → b ≡ d
  pub fine : (b u : ℕ) (p : List ℕ) → At b p u sh → Fine P p

-- The marks and the bytes are those of the shelf
pub record Laid (t : Table) (s : List ℕ) (sh : Shelf) : Type 0 where
  pub tail : List Mark
  pub marks : t.marks ≡ spread marks_of sh ++ tail
  pub store : s ≡ join (spread blocks_of sh)
  pub whole : Whole (spread blocks_of sh)
  pub bytes : t.bytes ≡ size sh * 512
  pub some : 0 < size sh
  pub few : size sh ≤ 128

pub record Stands (P : Payloads) (t : Table) (s : List ℕ) (m : Model) : Type 0 where
  pub shelf : Shelf
  pub laid : Laid t s shelf
  pub holding : Holding P shelf t.holds m
  pub all : length t.holds ≡ 128

module _ {t : Table} {s : List ℕ} {sh : Shelf} (l : Laid t s sh) where
  pub store_length : length s ≡ size sh * 512
  store_length = ap length l.store ∙ join_length l.whole ∙ ap (λ (n : ℕ). n * 512) (spread_length blocks_of blocks_width sh)

  pub blocks_are : blocks s ≡ spread blocks_of sh
  unfolding blocks
  blocks_are =
      let e : length s / 512 ≡ length (spread blocks_of sh) = omega (arith, store_length, spread_length blocks_of blocks_width sh) in
      ap₂ cut e l.store ∙ cut_join l.whole

  pub fits_is : fits t s ≡ true
  unfolding length_fits
  fits_is = rw (eq-eqb (length s) t.bytes (store_length ∙ sym l.bytes), eq-eqb (length s % 512) 0 (omega (arith, store_length)), lt-ltb 0 (length s) (omega (arith, store_length, l.some)), le-leb (length s) 65536 (omega (arith, store_length, l.few)))

pub by_where {ℓ} : {C : Type ℓ} {b u : ℕ} {p : List ℕ} {pre mid post : Shelf} → Where b p u pre mid post → ((d : ℕ) → b ≡ size pre + d → At d p u mid → C) → (b ≢ size pre → ((new : Shelf) → size new ≡ size mid → At b p u (between pre new post)) → C) → C
by_where (inside d e a) f g = f d e a
by_where (outside n a) f g = g n a

-- A part of the shelf and one hold change together
module _ (P : Payloads) (pre mid new post : Shelf) (hs : List ℕ) (m : Model) (i x : ℕ) (entry : Entry)
    (was : Holding P (between pre mid post) hs m) (alike : size new ≡ size mid) (some : 0 < size mid) (slot : i < length hs)
    (off_old : (b : ℕ) → b ≢ size pre → hit (suc b) (get_or hs i 0) ≡ 0)
    (off_new : (b : ℕ) → b ≢ size pre → hit (suc b) x ≡ 0)
    (led_new : Led (between pre new post) x entry)
    (old_part : (d u : ℕ) (p : List ℕ) → At d p u mid → (d ≡ 0) × (0 < count (suc (size pre)) (set hs i 0) → (v : ℕ) × At d p v new))
    (new_part : (d v : ℕ) (p : List ℕ) → At d p v new → (d ≡ 0) × (suc v ≡ count (suc (size pre)) (set hs i x)) × Fine P p × ((b u : ℕ) → At b p u (between pre mid post) → b ≡ size pre)) where
  count_off : (b : ℕ) → b ≢ size pre → count (suc b) (set hs i x) ≡ count (suc b) hs
  count_off b n = omega (arith, count_set (suc b) hs i x slot, off_old b n, off_new b n)

  exchange_leads : Leads (between pre new post) (set hs i x) (set m i entry)
  exchange_leads =
      let l = leads_again {to = between pre new post} (λ b u p h a. by_where (at_where pre mid post some a)
      (λ d e c. let r = old_part d u p c in let z : b ≡ size pre = omega (arith, r.0) in let q = r.1 (rw z at h) in (q.0, at_right pre e (at_left post q.1)))
      (λ n f. (u, f new alike))) (leads_set i empty was.leads) in
      rw (set-set hs i 0 x, set-set m i none entry) at (leads_set i led_new l)

  some_n : 0 < size new
  some_n = omega arith

  exchange_users : (b u : ℕ) (p : List ℕ) → At b p u (between pre new post) → suc u ≡ count (suc b) (set hs i x)
  exchange_users b u p a = by_where (at_where pre new post some_n a)
      (λ d e c. let r = new_part d u p c in let z : b ≡ size pre = omega (arith, r.0) in rw z r.1)
      (λ n f. was.users b u p (f mid (sym alike)) ∙ sym (count_off b n))

  exchange_alone : (b d u v : ℕ) (p : List ℕ) → At b p u (between pre new post) → At d p v (between pre new post) → b ≡ d
  exchange_alone b d u v p a c = by_where (at_where pre new post some_n a)
      (λ j e g. let r = new_part j u p g in by_where (at_where pre new post some_n c)
      (λ k e' g'. omega (arith, r.0, (new_part k v p g').0))
      (λ n f. omega (arith, r.0, r.3 d v (f mid (sym alike)))))
      (λ n f. by_where (at_where pre new post some_n c)
      (λ k e' g'. let r = new_part k v p g' in omega (arith, r.0, r.3 b u (f mid (sym alike))))
      (λ n' f'. was.alone b d u v p (f mid (sym alike)) (f' mid (sym alike))))

  exchange_fine : (b u : ℕ) (p : List ℕ) → At b p u (between pre new post) → Fine P p
  exchange_fine b u p a = by_where (at_where pre new post some_n a) (λ d e c. (new_part d u p c).2) (λ n f. was.fine b u p (f mid (sym alike)))

  pub exchange : Holding P (between pre new post) (set hs i x) (set m i entry)
  exchange = record { leads = exchange_leads; users = exchange_users; alone = exchange_alone; fine = exchange_fine }
