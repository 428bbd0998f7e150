-- `streams::PulseReader::step` meets its contract.
use Rattle.std.proofs.Common.{◌≡◌, ℕ, List, ◌+◌, ◌<◌, length, set, ap, ◌∙◌, arith, rules}
use Rattle.streams.specs.Stream.{push, place_of, unrolled}
use Rattle.streams.specs.Reader.{kept_by, taken}
use Rattle.streams.specs.declared.reader.PulseReader.{PulseReader}
use Rattle.streams.specs.declared.reader.Stepped.{Stepped}
use Rattle.streams.proofs.RingLaws.{pushed}
use Rattle.streams.proofs.reader.PulseReader.step.Goals as goal

-- the pulse stored at the oldest one's place, and what is said of the ring then
stepped : {F A : Type 0} (n : ℕ) (say_of : ℕ → List ℕ → A) (reader : PulseReader F n) (pulse place : ℕ) (said : A)
    → length reader.ring ≡ n → place < n → place ≡ place_of n reader.next → said ≡ say_of reader.base (unrolled (set reader.ring place pulse) (place + 1))
    → ◌≡◌ {A = Stepped (PulseReader F n) A}
    (record { reader = record { base = reader.base; ring = set reader.ring place pulse; next = place + 1; of = reader.of }; said = said })
    (record { reader = taken F n reader pulse; said = say_of reader.base (push (kept_by F n reader) pulse) })
unfolding taken kept_by
stepped n say_of reader pulse place said l h e s =
    let w = s ∙ ap (say_of reader.base) (pushed reader.ring place (omega arith) pulse) in
    rw (w, e)

pub returns : goal.returns
returns g c =
    let a = c.args in
    let p = c.place_of-place in
    stepped g.row.N g.F.Format.say_of a.self a.pulse p.result c.say-said.result (search rules) (p.ensures.within g.met.F.Format.keeps_some) p.ensures.place c.say-said.ensures
