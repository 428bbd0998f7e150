-- Any two answers that a public function's contract allows coincide, and so do the bytes that it leaves in a lent buffer. Over the contracts themselves.
use mathlib.Core.Path.{◌≡◌}
use borrow.Fn.Kinds.{Dens, res_t, ended_of}
use contract.Lifetimes.{Lfts}
use denote.Triple.Clauses.{AtExit}
use Rattle.laws.proofs.Coincide.{Coincide}
use Rattle.wire.proofs.layout.Columns.all_allowed.Reads as all-allowed-reads
use Rattle.wire.proofs.layout.Columns.all_allowed.Kinds as all-allowed-kinds
use Rattle.wire.proofs.layout.Columns.good_places.Reads as columns-good-places-reads
use Rattle.wire.proofs.layout.Columns.good_places.Kinds as columns-good-places-kinds
use Rattle.wire.proofs.layout.good_places.Reads as good-places-reads
use Rattle.wire.proofs.layout.good_places.Kinds as good-places-kinds
use Rattle.wire.proofs.layout.byte_at.Reads as byte-at-reads
use Rattle.wire.proofs.layout.byte_at.Kinds as byte-at-kinds
use Rattle.wire.proofs.layout.unprintable_at.Reads as unprintable-at-reads
use Rattle.wire.proofs.layout.unprintable_at.Kinds as unprintable-at-kinds
use Rattle.wire.proofs.digits.one_digit.Reads as one-digit-reads
use Rattle.wire.proofs.digits.one_digit.Kinds as one-digit-kinds
use Rattle.wire.proofs.digits.two_digits.Reads as two-digits-reads
use Rattle.wire.proofs.digits.two_digits.Kinds as two-digits-kinds
use Rattle.wire.proofs.digits.tens.Reads as tens-reads
use Rattle.wire.proofs.digits.tens.Kinds as tens-kinds
use Rattle.wire.proofs.digits.ones.Reads as ones-reads
use Rattle.wire.proofs.digits.ones.Kinds as ones-kinds
use Rattle.wire.proofs.put.put_at.Reads as put-at-reads
use Rattle.wire.proofs.put.put_at.Kinds as put-at-kinds

pub good_places_one : Coincide 2 good-places-kinds.ps good-places-kinds.r good-places-reads.Post
good_places_one κs a x y e f p q = cc

pub all_allowed_one : Coincide 2 all-allowed-kinds.ps all-allowed-kinds.r all-allowed-reads.Post
all_allowed_one κs a x y e f p q = cc

pub columns_good_places_one : Coincide 2 columns-good-places-kinds.ps columns-good-places-kinds.r columns-good-places-reads.Post
columns_good_places_one κs a x y e f p q = cc

pub byte_at_one : Coincide 1 byte-at-kinds.ps byte-at-kinds.r byte-at-reads.Post
byte_at_one κs a x y e f p q = cc

pub unprintable_at_one : Coincide 1 unprintable-at-kinds.ps unprintable-at-kinds.r unprintable-at-reads.Post
unprintable_at_one κs a x y e f p q = cc

pub one_digit_one : Coincide 1 one-digit-kinds.ps one-digit-kinds.r one-digit-reads.Post
one_digit_one κs a x y e f p q = cc

pub two_digits_one : Coincide 1 two-digits-kinds.ps two-digits-kinds.r two-digits-reads.Post
two_digits_one κs a x y e f p q = cc

pub tens_one : Coincide 0 tens-kinds.ps tens-kinds.r tens-reads.Post
tens_one κs a x y e f p q = cc

pub ones_one : Coincide 0 ones-kinds.ps ones-kinds.r ones-reads.Post
ones_one κs a x y e f p q = cc

pub put_at_one : (κs : Lfts 2) (a : Dens κs put-at-kinds.ps) (x y : (res_t put-at-kinds.r κs).Denot) (e f : AtExit (ended_of 2 put-at-kinds.ps put-at-kinds.r) κs)
    → put-at-reads.Post κs a x e → put-at-reads.Post κs a y f → (x ≡ y) × (e.0.now ≡ f.0.now)
put_at_one κs a x y e f p q = (cc, cc)
