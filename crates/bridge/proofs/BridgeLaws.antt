-- What document 01, L7 and L9 ask of the bridge, for any base year and either way: the room is looked at first, then the string's own
-- refusal goes through unchanged, then an odd quarter is 11, and nothing else refuses; the frame that is written reads back as the
-- reading that goes over.
use Rattle.strings.specs.Checks.{Answer}
use Rattle.std.specs.Prelude.{Err, Ok}
use mathlib.Core.Bool.{Bool, true, false, cond}
use mathlib.Core.List.{List, ◌++◌}
use mathlib.Core.Logic.{◌⊎◌, inl, inr, ◌↔◌}
use mathlib.Core.Path.{◌≡◌, refl, ◌∙◌}
use Prim.Native.Nat.{ℕ, ◌≤◌, ◌<◌}
use lib.Dec.{ltb}
use lib.ListN.{length, take, drop}
use lib.Seq.{take_at, drop_at}
use borrow.Author.Tests.{lt-ltb, le-ltb, ltb-true, ltb-false}
use Rattle.reading.specs.Years.{is_base}
use Rattle.reading.specs.declared.Reading.{Reading}
use Rattle.reading.specs.declared.Refusal.{Refusal}
use Rattle.reading.specs.declared.Fault.TheVariants.{Length, NotCarried, OtherBase}
use Rattle.reading.specs.Faults.{number, no_fault}
use Rattle.reading.specs.Checks.{checked_of}
use Rattle.reading.proofs.CheckLaws.{clash}
use Rattle.clock_string.specs.Reader.{read_string, whichever}
use Rattle.clock_string.proofs.ReadLaws.{Tells, refused_is, accepted_checked, other_base_lem}
use Rattle.irig.specs.Offset.{odd_quarter}
use Rattle.irig.specs.Faults.{frame_length, read_frame}
use Rattle.irig.specs.Writing.{frame_of, carried_of}
use Rattle.irig.proofs.CarriedLaws.{parts_carried, carried_is}
use Rattle.irig.proofs.WriteLaws.{length_frame}
use Rattle.irig.proofs.FrameLaws.{frame_read}
use Rattle.bridge.specs.declared.Coasting.{Coasting}
use Rattle.bridge.specs.declared.Coasting.TheVariants.{Worse}
use Rattle.bridge.specs.Bridge.{carried_by, answer_for, bridge_answer, bridge_filled}
use Rattle.bridge.proofs.CarriedLaws.{quarter-carried, carried_good}

module _ (base : ℕ) (s : List ℕ) where
  -- the reading of an accepted string passes the checks that every writer shares, and so does what goes over
  pub carried_checked : (way : Coasting) (r : Reading) (coasting : Bool) → Tells base s r coasting → checked_of base (carried_by way coasting r) ≡ no_fault
  carried_checked way r coasting e = carried_good base way coasting r (accepted_checked base s r coasting e)

  -- so that a frame carries it, unless its quarter is odd
  pub frame_carries : (way : Coasting) (r : Reading) (coasting : Bool) → Tells base s r coasting → odd_quarter r.offset.0 ≡ false
      → carried_of base (carried_by way coasting r) ≡ no_fault
  frame_carries way r coasting e even =
      parts_carried base (carried_by way coasting r) (carried_checked way r coasting e) (quarter-carried r way coasting ∙ even)

  module _ (way : Coasting) (buffer : List ℕ) where
    -- "The bridge checks output length first", whatever the string is
    pub too-short-first : length buffer < frame_length
        → (bridge_answer base s (length buffer) ≡ Err (number Length)) × (bridge_filled way base s buffer ≡ buffer)
    unfolding bridge_answer bridge_filled
    too-short-first h = rw (lt-ltb (length buffer) frame_length h) (refl, refl)

    module _ (enough : frame_length ≤ length buffer) where
      -- then the string's refusal, code and place
      pub string-refusal-unchanged : (x : Refusal) → read_string base s ≡ Err x
          → (bridge_answer base s (length buffer) ≡ Err x) × (bridge_filled way base s buffer ≡ buffer)
      unfolding bridge_answer bridge_filled
      string-refusal-unchanged x e = rw (le-ltb (length buffer) frame_length enough, e) (refl, refl)

      -- so that either string is refused by 19 where the base is none, and leaves the buffer
      pub other_base_refused : is_base base ≡ false → (length s ≡ 32) ⊎ (length s ≡ 68)
          → (bridge_answer base s (length buffer) ≡ Err (number OtherBase)) × (bridge_filled way base s buffer ≡ buffer)
      other_base_refused g l = string-refusal-unchanged (number OtherBase) (other_base_lem base s l g)

      module _ (r : Reading) (coasting : Bool) (accepted : Tells base s r coasting) where
        -- then "an odd quarter at .. the bridge is 11"
        pub odd-not-carried : odd_quarter r.offset.0 ≡ true
            → (bridge_answer base s (length buffer) ≡ Err (number NotCarried)) × (bridge_filled way base s buffer ≡ buffer)
        unfolding bridge_answer bridge_filled
        odd-not-carried odd = rw (le-ltb (length buffer) frame_length enough, accepted, odd) (refl, refl)

        module _ (even : odd_quarter r.offset.0 ≡ false) where
          -- then success, "from the start of the buffer and no others"
          pub accepted-written : (bridge_answer base s (length buffer) ≡ Ok frame_length)
              × (bridge_filled way base s buffer ≡ frame_of (carried_by way coasting r) ++ drop frame_length buffer)
          unfolding bridge_answer bridge_filled
          accepted-written = rw (le-ltb (length buffer) frame_length enough, accepted, even) (refl, refl)

          pub rest-untouched : drop frame_length (bridge_filled way base s buffer) ≡ drop frame_length buffer
          rest-untouched =
              let c = carried_by way coasting r in
              rw accepted-written.1 (drop_at (frame_of c) (drop frame_length buffer) frame_length (length_frame c))

          -- the frame says the string's reading, with what is pending and the quality that the way gives it
          pub frame-reads-back : read_frame base (take frame_length (bridge_filled way base s buffer)) ≡ Ok (carried_by way coasting r)
          frame-reads-back =
              let c = carried_by way coasting r in
              rw (accepted-written.1, take_at (frame_of c) (drop frame_length buffer) frame_length (length_frame c))
              (frame_read base c (carried_is base c (frame_carries way r coasting accepted even)))

-- ---- what an answer tells

module _ (base : ℕ) (s : List ℕ) where
  -- a string that says a time, at an odd quarter or not
  abbrev pub TellsAt : Bool → Type 0
  TellsAt odd = (r : Reading) × (coasting : Bool) × (Tells base s r coasting) × (odd_quarter r.offset.0 ≡ odd)

  -- nothing else refuses: a refusal is that of the room, the string's own, or 11 for a time at an odd quarter
  abbrev pub RefusedBy : ℕ → Refusal → Type 0
  RefusedBy room x =
      ((room < frame_length) × (x ≡ number Length))
      ⊎ ((frame_length ≤ room) × ((read_string base s ≡ Err x) ⊎ (TellsAt true × (x ≡ number NotCarried))))

  pub refused_by : (room : ℕ) (x : Refusal) → bridge_answer base s room ≡ Err x → RefusedBy room x
  unfolding bridge_answer
  refused_by room x e = go (ltb room frame_length) refl (whichever (read_string base s)) refl e
    where
      at : (r : Reading) (coasting : Bool) → Tells base s r coasting → (odd : Bool) → odd_quarter r.offset.0 ≡ odd
          → cond odd (Err (number NotCarried)) (Ok frame_length) ≡ Err x → TellsAt true × (x ≡ number NotCarried)
      at r coasting q true o e = ((r, coasting, q, o), cc)
      at r coasting q false o e = let z : ◌≡◌ {A = ℕ} 0 1 = cc in clash z

      go : (b : Bool) → ltb room frame_length ≡ b → (a : Answer) → whichever (read_string base s) ≡ a
          → cond b (Err (number Length)) (answer_for a) ≡ Err x → RefusedBy room x
      go true short a q e = inl (ltb-true room frame_length short, cc)
      go false wide (Err y) q e = inr (ltb-false room frame_length wide, inl (refused_is (read_string base s) x (cc)))
      go false wide (Ok (r, coasting)) q e = inr (ltb-false room frame_length wide, inr (at r coasting q (odd_quarter r.offset.0) refl e))

  -- a length is that of a frame, for a string that has room and says a time at no odd quarter
  pub wrote_by : (room n : ℕ) → bridge_answer base s room ≡ Ok n → (n ≡ frame_length) × (frame_length ≤ room) × TellsAt false
  unfolding bridge_answer
  wrote_by room n e = go (ltb room frame_length) refl (whichever (read_string base s)) refl e
    where
      at : (r : Reading) (coasting : Bool) → Tells base s r coasting → (odd : Bool) → odd_quarter r.offset.0 ≡ odd
          → cond odd (Err (number NotCarried)) (Ok frame_length) ≡ Ok n → (n ≡ frame_length) × TellsAt false
      at r coasting q true o e = let z : ◌≡◌ {A = ℕ} 0 1 = cc in clash z
      at r coasting q false o e = (cc, (r, coasting, q, o))

      go : (b : Bool) → ltb room frame_length ≡ b → (a : Answer) → whichever (read_string base s) ≡ a
          → cond b (Err (number Length)) (answer_for a) ≡ Ok n → (n ≡ frame_length) × (frame_length ≤ room) × TellsAt false
      go true short a q e = let z : ◌≡◌ {A = ℕ} 0 1 = cc in clash z
      go false wide (Err y) q e = let z : ◌≡◌ {A = ℕ} 0 1 = cc in clash z
      go false wide (Ok (r, coasting)) q e =
          let p = at r coasting q (odd_quarter r.offset.0) refl e in
          (p.0, ltb-false room frame_length wide, p.1)

  module _ (buffer : List ℕ) where
    -- success exactly where there is room and the string says a time at no odd quarter, whichever way
    pub exactly : (bridge_answer base s (length buffer) ≡ Ok frame_length) ↔ ((frame_length ≤ length buffer) × TellsAt false)
    exactly = (
      λ e. (let w = wrote_by (length buffer) frame_length e in (w.1, w.2)),
      λ a. (accepted-written base s Worse buffer a.0 a.1.0 a.1.1 a.1.2 a.1.3).0,
    )

    -- "A refusal leaves all lent memory untouched", either way
    pub refused_untouched : (way : Coasting) (x : Refusal) → bridge_answer base s (length buffer) ≡ Err x → bridge_filled way base s buffer ≡ buffer
    refused_untouched way x e = go (refused_by (length buffer) x e)
      where
        go : RefusedBy (length buffer) x → bridge_filled way base s buffer ≡ buffer
        go (inl a) = (too-short-first base s way buffer a.0).1
        go (inr (h, inl a)) = (string-refusal-unchanged base s way buffer h x a).1
        go (inr (h, inr a)) = (odd-not-carried base s way buffer h a.0.0 a.0.1 a.0.2 a.0.3).1
