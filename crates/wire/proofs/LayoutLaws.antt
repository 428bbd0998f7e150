-- What the number of good places tells of a text and its layout, and the number of printable bytes of a text.
use mathlib.Core.Path.{◌≡◌, refl, sym}
use mathlib.Core.Bool.{Bool, true, false, ◌&&◌}
use mathlib.Core.List.{List, [], ◌∷◌}
use Prim.Native.Nat.{ℕ, suc, ◌+◌, ◌≤◌, ◌<◌, min}
use native.Mathlib.Omega.{arith}
use lib.Dec.{leb}
use lib.ListN.{length, get_or}
use borrow.Author.Tests.{le-leb, leb-true}
use Rattle.std.specs.List.{prefix_len, zip}
use Rattle.laws.proofs.Bools.{both}
use Rattle.wire.specs.Layout.{allowed, all_good, good_places, printable, printables}
use Rattle.wire.proofs.FirstBad.{Leads, leads_none, leads_next, found, found_at, all_pass, one_more, stops_at, ends_at, all_next, all_is}

-- the byte at place i of a text is allowed by the layout
abbrev pub allowed_at : List ℕ → List ℕ → ℕ → Bool
allowed_at layout text i = allowed (get_or layout i 0) (get_or text i 0)

-- the byte at place i of a text is printable
abbrev pub printable_at : List ℕ → ℕ → Bool
printable_at text i = printable (get_or text i 0)

-- ---- good places

pub good_leads : (layout text : List ℕ) → Leads (allowed_at layout text) (min (length layout) (length text)) (good_places layout text)
unfolding good_places
good_leads [] text = let e : min 0 (length text) ≡ 0 = omega arith in rw e (leads_none _)
good_leads (e ∷ layout) [] = let q : min (suc (length layout)) 0 ≡ 0 = omega arith in rw q (leads_none _)
good_leads (e ∷ layout) (b ∷ text) =
    let q : min (suc (length layout)) (suc (length text)) ≡ suc (min (length layout) (length text)) = omega arith in
    rw q (leads_next (allowed_at (e ∷ layout) (b ∷ text)) _ _ (good_leads layout text))

-- of a loop that looks at every place
pub good_next : (layout text : List ℕ) (i : ℕ) → i < min (length layout) (length text)
    → leb (i + 1) (good_places layout text) ≡ (leb i (good_places layout text) && allowed_at layout text i)
good_next layout text i h = sym (all_next (good_leads layout text) i h)

-- of a loop that leaves at the first bad place: a turn later, where it leaves, and at its end
pub good_more : (layout text : List ℕ) (i : ℕ) → i < min (length layout) (length text) → i ≤ good_places layout text
    → allowed_at layout text i ≡ true → i + 1 ≤ good_places layout text
good_more layout text i h k e = one_more (good_leads layout text) i h k e

pub good_stop : (layout text : List ℕ) (i : ℕ) → i ≤ good_places layout text → allowed_at layout text i ≡ false → i ≡ good_places layout text
good_stop layout text i k e = stops_at (good_leads layout text) i k e

pub good_end : (layout text : List ℕ) (i : ℕ) → min (length layout) (length text) ≤ i → i ≤ good_places layout text → i ≡ good_places layout text
good_end layout text i h k = ends_at (good_leads layout text) i h k

pub ruleset good_scan = (good_more, good_stop, good_end)

pub good_within : (layout text : List ℕ) → (good_places layout text ≤ length layout) × (good_places layout text ≤ length text)
good_within layout text = let w = (good_leads layout text).within in (omega arith, omega arith)

pub all-allowed : (layout text : List ℕ) → good_places layout text ≡ length text → (i : ℕ) → i < length text → allowed_at layout text i ≡ true
all-allowed layout text e i h = (good_leads layout text).below i (omega arith)

pub first_bad : (layout text : List ℕ) (k : ℕ) → good_places layout text ≡ k → k < length layout → k < length text
    → (allowed_at layout text k ≡ false) × ((i : ℕ) → i < k → allowed_at layout text i ≡ true)
first_bad layout text k e h l = found (good_leads layout text) k e (omega arith)

pub first_bad_is : (layout text : List ℕ) (k : ℕ) → k < length layout → k < length text → allowed_at layout text k ≡ false
    → ((i : ℕ) → i < k → allowed_at layout text i ≡ true) → good_places layout text ≡ k
first_bad_is layout text k h l e f = found_at (good_leads layout text) k (omega arith) e f

-- of a text that is no longer than its layout
pub all-good : (layout text : List ℕ) → length text ≤ length layout → all_good layout text ≡ true → length text ≡ good_places layout text
all-good layout text e h =
    let l = leb-true (min (length layout) (length text)) (good_places layout text) h in
    let w = (good_leads layout text).within in
    omega arith

-- the pairs of entry and byte from the start that pass
pub good_prefix : (layout text : List ℕ) → prefix_len (λ (e : ℕ × ℕ). allowed e.0 e.1) (zip layout text) ≡ good_places layout text
unfolding good_places
good_prefix [] text = refl
good_prefix (e ∷ layout) [] = refl
good_prefix (e ∷ layout) (b ∷ text) =
    let next : 1 + good_places layout text ≡ suc (good_places layout text) = omega arith in
    rw (good_prefix layout text, next)

-- ---- printable bytes

pub printable_is : (b : ℕ) → printable b ≡ true → (32 ≤ b) × (b ≤ 126)
unfolding printable
printable_is b e = let p = both (leb 32 b) (leb b 126) e in (leb-true 32 b p.0, leb-true b 126 p.1)

pub is_printable : (b : ℕ) → 32 ≤ b → b ≤ 126 → printable b ≡ true
unfolding printable
is_printable b h k = rw (le-leb 32 b h, le-leb b 126 k)

pub printables_leads : (text : List ℕ) → Leads (printable_at text) (length text) (printables text)
unfolding printables
printables_leads [] = leads_none _
printables_leads (b ∷ text) = leads_next (printable_at (b ∷ text)) _ _ (printables_leads text)

-- of a loop that looks at every byte
pub printables_next : (text : List ℕ) (i : ℕ) → i < length text → leb (i + 1) (printables text) ≡ (leb i (printables text) && printable_at text i)
printables_next text i h = sym (all_next (printables_leads text) i h)

-- the bytes from the start that pass
pub printables_prefix : (text : List ℕ) → prefix_len printable text ≡ printables text
unfolding printables
printables_prefix [] = refl
printables_prefix (b ∷ text) =
    let next : 1 + printables text ≡ suc (printables text) = omega arith in
    rw (printables_prefix text, next)

pub printables_within : (text : List ℕ) → printables text ≤ length text
printables_within text = (printables_leads text).within

pub printables_all : (text : List ℕ) → leb (length text) (printables text) ≡ true → length text ≡ printables text
printables_all text e = all_is (printables_leads text) (length text) refl e

pub ruleset printables_scan = (printables_all, printables_prefix)

pub all-printable : (text : List ℕ) → printables text ≡ length text → (i : ℕ) → i < length text → printable_at text i ≡ true
all-printable text e i h = (printables_leads text).below i (omega arith)

pub all-printables : (text : List ℕ) → ((i : ℕ) → i < length text → printable_at text i ≡ true) → printables text ≡ length text
all-printables text f = all_pass (printables_leads text) f

pub first_unprintable_is : (text : List ℕ) (k : ℕ) → k < length text → printable_at text k ≡ false
    → ((i : ℕ) → i < k → printable_at text i ≡ true) → printables text ≡ k
first_unprintable_is text k h e f = found_at (printables_leads text) k h e f
