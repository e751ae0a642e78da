-- Records and their bytes: a record laid down and read back is the same record, one record has one text of 8 bytes, and the
-- records of a run stand at 8 bytes each.
use Rattle.std.specs.Prelude.{ℕ, zero, suc, ◌+◌, ◌*◌, ◌/◌, ◌<◌, ◌≤◌, List, ◌++◌, ◌≡◌, refl, length, get_or, take}
use Rattle.std.proofs.Common.{arith, sym, ◌∙◌, ext_get_or, get_or-take, take_all, length-take-le}
use Rattle.std.proofs.Math.ListN.{get_or-eq_default}
use Rattle.language.specs.Word.{none, one, Bytes}
pub use Rattle.runs.specs.Laws.Bytes.{byte_at, bytes_drop}
use Rattle.runs.specs.Laws.Bytes.{two_bytes, low_byte, high_byte, low_is_byte, high_is_byte, two_apart}
use Rattle.runs.specs.Laws.Runs.{Item}
use Rattle.runs.specs.Laws.Runs as runs
use Rattle.records.specs.declared.record.Record.{Record}
use Rattle.records.specs.Record.{record_of, bytes_of, number_of, record_at, first_records, records, no_record, child, run_of}

-- A record laid down and read back is the same record, whatever stands behind it.
pub read_back : (r : Record) (rest : List ℕ) → record_of (bytes_of r ++ rest) ≡ r
read_back r rest =
    λ i. record {
      kind = r.kind;
      letter = r.letter;
      mark = r.mark;
      fourth = r.fourth;
      left = two_bytes r.left i;
      right = two_bytes r.right i;
    }

-- What holds of each number below 8 holds of all.
below_eight : (P : ℕ → Type 0) → P 0 → P 1 → P 2 → P 3 → P 4 → P 5 → P 6 → P 7 → (i : ℕ) → i < 8 → P i
below_eight P a b c d e f g h zero l = a
below_eight P a b c d e f g h (suc zero) l = b
below_eight P a b c d e f g h (suc (suc zero)) l = c
below_eight P a b c d e f g h (suc (suc (suc zero))) l = d
below_eight P a b c d e f g h (suc (suc (suc (suc zero)))) l = e
below_eight P a b c d e f g h (suc (suc (suc (suc (suc zero))))) l = f
below_eight P a b c d e f g h (suc (suc (suc (suc (suc (suc zero)))))) l = g
below_eight P a b c d e f g h (suc (suc (suc (suc (suc (suc (suc zero))))))) l = h
below_eight P a b c d e f g h (suc (suc (suc (suc (suc (suc (suc (suc n)))))))) l = absurd (omega arith)

-- The text of a record is the 8 bytes that it was read from: one record has one text.
pub first_text : (s : List ℕ) → 8 ≤ length s → Bytes s → bytes_of (record_of s) ≡ take 8 s
first_text s n b =
    ext_get_or 0 (bytes_of (record_of s)) (take 8 s) (sym (length-take-le 8 s n))
    (below_eight (λ (i : ℕ). get_or (bytes_of (record_of s)) i 0 ≡ get_or (take 8 s) i 0)
    (as_taken 0 (omega arith) refl)
    (as_taken 1 (omega arith) refl)
    (as_taken 2 (omega arith) refl)
    (as_taken 3 (omega arith) refl)
    (as_taken 4 (omega arith) (low_byte (get_or s 4 0) (get_or s 5 0) (byte_at b 4)))
    (as_taken 5 (omega arith) (high_byte (get_or s 4 0) (get_or s 5 0) (byte_at b 4)))
    (as_taken 6 (omega arith) (low_byte (get_or s 6 0) (get_or s 7 0) (byte_at b 6)))
    (as_taken 7 (omega arith) (high_byte (get_or s 6 0) (get_or s 7 0) (byte_at b 6))))
  where
    as_taken : (i : ℕ) → i < 8 → get_or (bytes_of (record_of s)) i 0 ≡ get_or s i 0 → get_or (bytes_of (record_of s)) i 0 ≡ get_or (take 8 s) i 0
    as_taken i l e = e ∙ sym (get_or-take 8 s i 0 l)

pub one_text : (s : List ℕ) → length s ≡ 8 → Bytes s → bytes_of (record_of s) ≡ s
one_text s n b = first_text s (omega arith) b ∙ take_all 8 s (omega arith)

-- Records whose fields fit their bytes are told apart by their numbers.

pub record Fitting (r : Record) : Type 0 where
  pub kind : r.kind < 256
  pub letter : r.letter < 256
  pub mark : r.mark < 256
  pub fourth : r.fourth < 256
  pub left : r.left < 65536
  pub right : r.right < 65536

digit : (a b x y : ℕ) → a < 256 → x < 256 → a + 256 * b ≡ x + 256 * y → (a ≡ x) × (b ≡ y)
digit a b x y l m e = (omega arith, omega arith)

pub number_one : (r s : Record) → Fitting r → Fitting s → number_of r ≡ number_of s → r ≡ s
number_one r s f g e =
    let k = digit r.kind _ s.kind _ f.kind g.kind e in
    let l = digit r.letter _ s.letter _ f.letter g.letter k.1 in
    let m = digit r.mark _ s.mark _ f.mark g.mark l.1 in
    let z = digit r.fourth _ s.fourth _ f.fourth g.fourth m.1 in
    let c = two_apart r.left r.right s.left s.right f.left g.left z.1 in
    λ i. record { kind = k.0 i; letter = l.0 i; mark = m.0 i; fourth = z.0 i; left = c.0 i; right = c.1 i }

-- A record read from bytes fits, and its own bytes are bytes.

pub fitting_of : {s : List ℕ} → Bytes s → Fitting (record_of s)
fitting_of b =
    record {
      kind = byte_at b 0;
      letter = byte_at b 1;
      mark = byte_at b 2;
      fourth = byte_at b 3;
      left = omega (arith, byte_at b 4, byte_at b 5);
      right = omega (arith, byte_at b 6, byte_at b 7);
    }

bytes_fitting : (r : Record) → Fitting r → Bytes (bytes_of r)
bytes_fitting r f =
    one f.kind
    (one f.letter
    (one f.mark
    (one f.fourth
    (one (low_is_byte r.left)
    (one (high_is_byte r.left f.left)
    (one (low_is_byte r.right) (one (high_is_byte r.right f.right) none)))))))

-- So records are items of 8 bytes, and what runs promise holds of runs of records.
pub record_item : Item 8 record_of bytes_of Fitting
record_item = record { some = omega arith; long = λ r. refl; back = read_back; bytes = bytes_fitting }

-- A run of records is 8 bytes for each.
pub length_run : (rs : List Record) → length (run_of rs) ≡ 8 * length rs
unfolding run_of
length_run = runs.length_run record_item

-- The records of a run are those that were laid down, and a run of whole records has one text.

pub records_of_run : (rs : List Record) → records (run_of rs) ≡ rs
unfolding records run_of
records_of_run = runs.all_of_run record_item

pub run_of_first : (n : ℕ) (s : List ℕ) → length s ≡ 8 * n → Bytes s → run_of (first_records n s) ≡ s
unfolding first_records run_of
run_of_first = runs.run_of_first 8 record_of bytes_of first_text

-- The record numbered `at` of a list of records is the record at its place in the run.

pub length_first : (n : ℕ) (s : List ℕ) → length (first_records n s) ≡ n
unfolding first_records
length_first = runs.length_first 8 record_of

pub first_at : (n : ℕ) (s : List ℕ) (at : ℕ) → at < n → child (first_records n s) at ≡ record_at s at
unfolding first_records
first_at = runs.first_at 8 record_of no_record

pub record_at_place : (card : List ℕ) (at : ℕ) → at < length card / 8 → child (records card) at ≡ record_at card at
unfolding records
record_at_place card at l = first_at (length card / 8) card at l

pub length_records : (card : List ℕ) → length (records card) ≡ length card / 8
unfolding records
length_records card = length_first (length card / 8) card

pub past_records : (card : List ℕ) (at : ℕ) → length card / 8 ≤ at → child (records card) at ≡ no_record
past_records card at l = get_or-eq_default (records card) no_record {n = at} (omega (arith, length_records card))
