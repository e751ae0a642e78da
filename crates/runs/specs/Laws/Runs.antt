-- Runs of items, proved once of every kind of item that gives what `Item` asks for. A run is so many bytes for each item, its items are read
-- back as they were laid down, and the item of a number stands at its bytes. Items laid in a room are those that stand there, items that
-- stand laid in their room again leave it as it is, and of two lists of items laid one after the other the longer is what stands.
use Prim.Native.Nat.{ℕ, zero, suc, ◌+◌, ◌*◌, ◌-◌, ◌<◌, ◌≤◌}
use Rattle.std.proofs.Math.Nat.{mul-zero, div-eq_of_eq-mul_right}
use Rattle.std.proofs.Common.{mul-le-mul_left, ◌∙◌, subst, take-append-drop, take-add, take_all, take_at, drop-drop, drop_at}
use native.Mathlib.Omega.{arith}
use mathlib.Core.List.{List, [], ◌∷◌, ◌++◌, append_assoc, append-nil}
use Rattle.std.specs.Prelude.{◌≡◌, get_or, drop}
use Rattle.std.proofs.Math.Path.{refl, sym, ap, ap₂}
use Rattle.std.proofs.Math.ListN.{length, take, length-append, length-drop}
use Rattle.language.specs.Word.{none, Bytes}
use Rattle.language.proofs.Laws.Words.{over_join}
use Rattle.runs.specs.Runs.{item_at, first_items, run_of_items, space_in, laid_items, ItemsStand}
use Rattle.runs.specs.Laws.Bytes.{bytes_drop, behind_covered, put_in_part}

-- What a kind of item has to give: it has bytes, and each item as many; an item laid down and read back is the same item, whatever stands
-- behind it; and the bytes of an item that fits are bytes.
pub record Item {A : Type 0} (size : ℕ) (item_of : List ℕ → A) (bytes_of : A → List ℕ) (Fits : A → Type 0) : Type 0 where
  pub some : 0 < size
  pub long : (a : A) → length (bytes_of a) ≡ size
  pub back : (a : A) (rest : List ℕ) → item_of (bytes_of a ++ rest) ≡ a
  pub bytes : (a : A) → Fits a → Bytes (bytes_of a)

-- The first items of a run, and the item of a number.
module _ {A : Type 0} (size : ℕ) (item_of : List ℕ → A) where
  pub length_first : (n : ℕ) (s : List ℕ) → length (first_items size item_of n s) ≡ n
  unfolding first_items
  length_first zero s = refl
  length_first (suc n) s = ap suc (length_first n (drop size s))

  pub first_at : (missing : A) (n : ℕ) (s : List ℕ) (at : ℕ) → at < n → get_or (first_items size item_of n s) at missing ≡ item_at size item_of s at
  unfolding first_items
  first_at missing zero s at l = absurd (omega arith)
  first_at missing (suc n) s zero l = ap (λ (k : ℕ). item_of (drop k s)) (sym (mul-zero size))
  first_at missing (suc n) s (suc at) l =
      let e : size + size * at ≡ size * suc at = omega arith in
      first_at missing n (drop size s) at (omega arith)
      ∙ ap item_of (drop-drop (size * at) size s)
      ∙ ap (λ (k : ℕ). item_of (drop k s)) e

-- The run of two lists of items, one behind the other.
run_append : {A : Type 0} (bytes_of : A → List ℕ) (xs ys : List A)
    → run_of_items bytes_of (xs ++ ys) ≡ run_of_items bytes_of xs ++ run_of_items bytes_of ys
unfolding run_of_items
run_append bytes_of [] ys = refl
run_append bytes_of (x ∷ xs) ys =
    ap (λ (s : List ℕ). bytes_of x ++ s) (run_append bytes_of xs ys)
    ∙ sym (append_assoc (bytes_of x) (run_of_items bytes_of xs) (run_of_items bytes_of ys))

-- Where each text of so many bytes is the text of one item, bytes are the run of the items that they are read as.
module _ {A : Type 0} (size : ℕ) (item_of : List ℕ → A) (bytes_of : A → List ℕ)
    (text : (s : List ℕ) → size ≤ length s → Bytes s → bytes_of (item_of s) ≡ take size s) where
  -- The run of a room's first items is the room's first bytes.
  run_in_room : (n : ℕ) (room : List ℕ) → size * n ≤ length room → Bytes room
      → run_of_items bytes_of (first_items size item_of n room) ≡ take (size * n) room
  unfolding first_items run_of_items
  run_in_room zero room l b = ap (λ (k : ℕ). take k room) (sym (mul-zero size))
  run_in_room (suc n) room l b =
      let e : size + size * n ≡ size * suc n = omega arith in
      let m : size * n ≤ length (drop size room) = omega (arith, length-drop size room) in
      ap₂ ◌++◌ (text room (omega arith) b) (run_in_room n (drop size room) m (bytes_drop size b))
      ∙ sym (take-add size (size * n) room)
      ∙ ap (λ (k : ℕ). take k room) e

  -- A run of whole items has one text.
  pub run_of_first : (n : ℕ) (s : List ℕ) → length s ≡ size * n → Bytes s → run_of_items bytes_of (first_items size item_of n s) ≡ s
  run_of_first n s e b = run_in_room n s (omega arith) b ∙ take_all (size * n) s (omega arith)

  -- And the first items of any room of bytes stand in it.
  pub any_stand : (n : ℕ) (room : List ℕ) → size * n ≤ length room → Bytes room → ItemsStand size (first_items size item_of) (run_of_items bytes_of) room n
  any_stand n room l b = record { bytes = b; fits = l; run = sym (run_in_room n room l b) }

module _ {A : Type 0} {size : ℕ} {item_of : List ℕ → A} {bytes_of : A → List ℕ} {Fits : A → Type 0} (item : Item size item_of bytes_of Fits) where
  abbrev first : ℕ → List ℕ → List A
  first = first_items size item_of

  abbrev run : List A → List ℕ
  run = run_of_items bytes_of

  abbrev laid : List A → List ℕ → List ℕ
  laid = laid_items size run

  -- A run is so many bytes for each item.
  pub length_run : (items : List A) → length (run items) ≡ size * length items
  unfolding run_of_items
  length_run [] = sym (mul-zero size)
  length_run (a ∷ items) =
      let long = item.long a in
      let rest = length_run items in
      length-append (bytes_of a) (run items) ∙ omega arith

  -- The items of a run, whatever stands behind it.
  pub first_of_run : (items : List A) (rest : List ℕ) → first (length items) (run items ++ rest) ≡ items
  unfolding first_items run_of_items
  first_of_run [] rest = refl
  first_of_run (a ∷ items) rest =
      let e = append_assoc (bytes_of a) (run items) rest in
      ap₂ ◌∷◌
      (ap item_of e ∙ item.back a (run items ++ rest))
      (ap (λ (s : List ℕ). first (length items) (drop size s)) e
      ∙ ap (first (length items)) (drop_at (bytes_of a) (run items ++ rest) size (item.long a))
      ∙ first_of_run items rest)

  -- All items of a run.
  pub all_of_run : (items : List A) → first (space_in size (run items)) (run items) ≡ items
  all_of_run items =
      ap (λ (n : ℕ). first n (run items)) (div-eq_of_eq-mul_right item.some (length_run items))
      ∙ subst (λ (s : List ℕ). first (length items) s ≡ items) (append-nil (run items)) (first_of_run items [])

  -- Items laid in a room are those that stand there.
  pub first_of_laid : (items : List A) (room : List ℕ) → first (length items) (laid items room) ≡ items
  first_of_laid items room = first_of_run items (drop (size * length items) room)

  -- What items cover of a room does not matter to it.
  pub laid_laid : (xs ys : List A) (room : List ℕ) → length xs ≤ length ys → laid ys (laid xs room) ≡ laid ys room
  laid_laid xs ys room l =
      ap (λ (s : List ℕ). run ys ++ s)
      (behind_covered (run xs) room (size * length xs) (size * length ys) (length_run xs) (mul-le-mul_left size l))

  -- Items that the room has space for leave its length.
  pub length_laid : (items : List A) (room : List ℕ) → size * length items ≤ length room → length (laid items room) ≡ length room
  length_laid items room l = simp (length-append, length_run, length-drop) (omega arith)

  -- Items that fit leave bytes.

  bytes_run : (missing : A) (items : List A) → ((i : ℕ) → i < length items → Fits (get_or items i missing)) → Bytes (run items)
  unfolding run_of_items
  bytes_run missing [] f = none
  bytes_run missing (a ∷ items) f =
      over_join (item.bytes a (f zero (omega arith))) (bytes_run missing items (λ i l. f (suc i) (omega arith)))

  pub bytes_laid : (missing : A) (items : List A) {room : List ℕ} → ((i : ℕ) → i < length items → Fits (get_or items i missing))
      → Bytes room → Bytes (laid items room)
  bytes_laid missing items f b = over_join (bytes_run missing items f) (bytes_drop (size * length items) b)

  -- No items stand in any room of bytes.
  pub none_stand : {room : List ℕ} → Bytes room → ItemsStand size first run room 0
  unfolding first_items run_of_items
  none_stand {room} b = record { bytes = b; fits = omega (arith, mul-zero size); run = ap (λ (k : ℕ). take k room) (mul-zero size) }

  -- Items that fit, laid in a room of bytes that has space for them, stand there.
  pub stands_laid : (missing : A) (items : List A) (room : List ℕ) → ((i : ℕ) → i < length items → Fits (get_or items i missing))
      → size * length items ≤ length room → Bytes room → ItemsStand size first run (laid items room) (length items)
  stands_laid missing items room f l b =
      record {
        bytes = bytes_laid missing items f b;
        fits = omega (arith, length_laid items room l);
        run =
            take_at (run items) (drop (size * length items) room) (size * length items) (length_run items)
            ∙ ap run (sym (first_of_laid items room));
      }

  -- The items that stand in a room, laid in it, leave the room as it is.
  pub laid_same : {room : List ℕ} {n : ℕ} → ItemsStand size first run room n → laid (first n room) room ≡ room
  laid_same {room} {n} s = rw (sym s.run, length_first size item_of n room) (take-append-drop (size * n) room)

  -- An item laid behind those that stand is one more of them; so it is where its bytes are put into the part of the room that starts there.

  pub laid_one_more : {room : List ℕ} {n : ℕ} → ItemsStand size first run room n → (a : A)
      → take (size * n) room ++ (bytes_of a ++ drop (size * n + size) room) ≡ laid (first n room ++ a ∷ []) room
  unfolding run_of_items
  laid_one_more {room} {n} s a =
      let e : size * length (first n room ++ a ∷ []) ≡ size * n + size = simp (length-append, length_first size item_of) (omega arith) in
      rw (e, run_append bytes_of (first n room) (a ∷ []), append-nil (bytes_of a), sym s.run, append_assoc)

  pub one_more_put : {room : List ℕ} {n : ℕ} → ItemsStand size first run room n → (a : A) {start : ℕ} {part : List ℕ} → start ≡ size * n
      → part ≡ bytes_of a ++ drop size (take (length room - start) (drop start room))
      → take start room ++ (part ++ drop (length room - start) (drop start room)) ≡ laid (first n room ++ a ∷ []) room
  one_more_put {room} {n} s a e f = rw e (put_in_part size (size * n) room (bytes_of a) (rw e at f) ∙ laid_one_more s a)
