-- Entries that were seen: where a trail was cut they are its own, and else an older part of it.
use Rattle.std.proofs.Common.{◌≡◌, ◌+◌, ◌≤◌, List, [], ◌++◌, length, ap, ◌∙◌, arith}
use Rattle.std.proofs.lemmas.List.{length-append, nil_from_length}
use Rattle.lit_base.specs.declared.trail.Entry.{Entry}

-- a front without entries
no_front : (more seen trail : List Entry) → seen ≡ more ++ trail → more ≡ [] → seen ≡ trail
no_front more seen trail front none = front ∙ ap (λ es. es ++ trail) none

-- where no fewer entries are left than were seen, all that were seen are left
pub seen_all : (more seen trail : List Entry) → seen ≡ more ++ trail → length seen ≤ length trail → seen ≡ trail
seen_all more seen trail front few =
    let lengths : length seen ≡ length more + length trail = ap length front ∙ length-append more trail in
    no_front more seen trail front (nil_from_length more (omega arith))

-- a longer trail has no fewer entries
pub not_fewer : (more seen trail : List Entry) → trail ≡ more ++ seen → length seen ≤ length trail
not_fewer more seen trail front =
    let lengths : length trail ≡ length more + length seen = ap length front ∙ length-append more seen in
    omega arith
