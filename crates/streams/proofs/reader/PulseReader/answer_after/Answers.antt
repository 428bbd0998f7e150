-- `streams::PulseReader::answer_after` meets its contract.
use Rattle.std.proofs.Common.{◌≡◌, ℕ, List, ◌+◌, ◌<◌, ◌≤◌, length, take, get_or, add-one, ap, ◌∙◌, sym, arith}
use lib.Seq.{take-suc}
use Rattle.streams.specs.Stream.{push, window_of}
use Rattle.streams.specs.Reader.{filler, kept_by, taken, by_its_base}
use Rattle.streams.specs.declared.reader.PulseReader.{PulseReader}
use Rattle.streams.specs.declared.reader.Stepped.{Stepped}
use Rattle.streams.proofs.Window.{window_length, window_push, window_none}
use Rattle.streams.proofs.Readers.{kept_fresh, kept_taken}
use Rattle.streams.proofs.reader.PulseReader.answer_after.Goals as goal

-- one more of them
turn : {F A : Type 0} (n : ℕ) (say_of owed : ℕ → List ℕ → A) → 1 ≤ n → ((base : ℕ) (h : List ℕ) → say_of base (window_of n filler h) ≡ owed base h)
    → (base : ℕ) (ps : List ℕ) (i : ℕ) (reader : PulseReader F n) (s : Stepped (PulseReader F n) A)
    → reader.base ≡ base → i < length ps → kept_by F n reader ≡ window_of n filler (take i ps)
    → s ≡ record { reader = taken F n reader (get_or ps i 0); said = by_its_base F n say_of reader (get_or ps i 0) }
    → (s.reader.base ≡ base) × (kept_by F n s.reader ≡ window_of n filler (take (i + 1) ps)) × (s.said ≡ owed base (take (i + 1) ps))
unfolding taken
turn {F} {A} n say_of owed one due base ps i reader s b h w e =
    let p = get_or ps i 0 in
    let l : length (kept_by F n reader) ≡ n = ap length w ∙ window_length n filler (take i ps) in
    let t : push (kept_by F n reader) p ≡ window_of n filler (take (i + 1) ps) = rw (w, add-one, take-suc ps i 0 h) (window_push n filler (take i ps) p one) in (
      ap (λ (s : Stepped (PulseReader F n) A). s.reader.base) e ∙ b,
      ap (λ (s : Stepped (PulseReader F n) A). kept_by F n s.reader) e ∙ kept_taken F n one reader p l ∙ t,
      ap (λ (s : Stepped (PulseReader F n) A). s.said) e ∙ ap (λ (m : ℕ). say_of m (push (kept_by F n reader) p)) b ∙ ap (say_of base) t ∙ due base (take (i + 1) ps),
    )

pub loop-pulse-init : goal.loop-pulse-init
loop-pulse-init g c =
    let e = c.fresh-reader.ensures in
    record {
      same_base = ap (λ (r : PulseReader g.row.F.Denot g.row.N). r.base) e;
      keeps = ap (kept_by g.row.F.Denot g.row.N) e ∙ kept_fresh g.row.F.Denot g.row.N c.args.base ∙ sym (window_none g.row.N filler);
      says = c.nothing-said.ensures ∙ sym (g.met.F.Format.unbegun c.args.base);
    }

pub loop-pulse-preserved : goal.loop-pulse-preserved
loop-pulse-preserved g c =
    let l = c.loop-pulse in
    let a = c.args in
    let t = turn g.row.N g.F.Format.say_of g.F.Format.owed g.met.F.Format.keeps_some g.met.F.Format.due a.base a.pulses.now l.pulse-index l.reader c.step-stepped.result
    l.invariant.same_base (omega arith) l.invariant.keeps c.step-stepped.ensures in
    record { same_base = t.0; keeps = t.1; says = t.2 }
