-- What a read does to the bytes that are left.
use Rattle.std.proofs.Common.{◌≡◌, ℕ, ◌+◌, ◌<◌, ◌≤◌, List, [], ◌++◌, length, take, drop, min, arith, length-append, length-drop, drop-drop, take-append-drop, refl}
use Rattle.std.proofs.Math.Seq.{take-append_seam}
use Rattle.std.proofs.lemmas.List.{drop_all, length-take-le}

-- what was left is what was copied to the front of the buffer and then what is left now
pub left-read : (content buffer copied : List ℕ) (position count : ℕ) → copied ≡ take count (drop position content)
    → count ≤ length (drop position content)
    → drop position content ≡ take count (copied ++ drop count buffer) ++ drop (position + count) content
left-read content buffer copied position count copies enough =
    let whole : length copied ≡ count = rw copies (length-take-le count (drop position content) enough) in
    let front : take count (copied ++ drop count buffer) ≡ copied =
    grind (arith, take-append_seam copied (drop count buffer)) in
    let onward : drop count (drop position content) ≡ drop (position + count) content =
    drop-drop count position content in
    let parts : take count (drop position content) ++ drop count (drop position content) ≡ drop position content =
    take-append-drop count (drop position content) in
    cc

-- where there was room, nothing was handed over only where nothing is left
pub left-no_count : (content buffer copied : List ℕ) (position room count : ℕ)
    → count ≡ min room (length (drop position content)) → (0 < length buffer → 0 < room)
    → copied ≡ take count (drop position content) → count ≡ 0 → 0 < length (copied ++ drop count buffer)
    → drop (position + count) content ≡ []
left-no_count content buffer copied position room count counts has_room copies none in_buffer =
    let whole : length copied ≡ 0 = rw (copies, none) refl in
    let offered : 0 < length buffer =
    omega (arith, length-append copied (drop count buffer), length-drop count buffer) in
    let some : 0 < room = has_room offered in
    drop_all (position + count) content (omega (arith, length-drop position content))
