-- Demand 2: what a proper record writes reads back, at any head of its ring in its phase and round, as what it had to say. What it has to say is
-- proper, since its position is in range and its list is a table of n entries, and a frame written for a proper meaning reads back as that meaning.
use Rattle.std.specs.Prelude.{None, Ok, Err}
use mathlib.Core.Path.{◌≡◌, refl}
use mathlib.Core.Bool.{Bool, true, false, cond}
use mathlib.Core.List.{List, ◌++◌}
use Prim.Native.Nat.{ℕ, zero, suc, ◌<◌}
use native.Mathlib.Omega.{arith}
use lib.ListN.{length, take, drop}
use lib.Seq.{take-append_seam}
use Rattle.terms.specs.Refusals as refusal
use Rattle.terms.specs.Sizes.{is_listener}
use Rattle.frame_spec.specs.Said.{collected, listed, confessed}
use Rattle.frame_spec.specs.Written.{fits_in, written, buffered}
use Rattle.frame_spec.specs.Proper.{Proper, round_of_meaning}
use Rattle.frame_spec.proofs.ReadsBack.{reads_back}
use Rattle.head_spec.specs.declared.Head.{Head}
use Rattle.head_spec.specs.Calls.{said_to, spoken_in, spoken, frame_for, write_answer, write_buffer}
use Rattle.head_spec.proofs.Proper.{ProperHead, rounds_few}

module _ (h : Head) (P : ProperHead h) where
  proper_spoken : Proper h.seat.n (spoken h) × (round_of_meaning (spoken h) ≡ h.seat.round)
  unfolding spoken
  proper_spoken = go h.seat.round (omega (arith, P.seat.round, rounds_few h.seat.family))
    where
      collecting : (b : Bool) → Proper h.seat.n (collected (cond b None h.seat.position))
      collecting true = tt
      collecting false = P.seat.position

      confessing : (b : Bool) → let m = cond b confessed (listed h.list) in Proper h.seat.n m × (round_of_meaning m ≡ 1)
      confessing true = (tt, refl)
      confessing false = (P.list, refl)

      go : (r : ℕ) → r < 2 → Proper h.seat.n (spoken_in r h) × (round_of_meaning (spoken_in r h) ≡ r)
      go zero l = (collecting h.seat.healed, refl)
      go (suc zero) l = confessing h.seat.healed
      go (suc (suc r)) l = absurd (omega arith)

  pub spoken_reads_back : said_to h.seat h.seat.number (frame_for h) ≡ spoken h
  spoken_reads_back =
      let (proper, round) = proper_spoken in
      let S = P.seat in
      rw round at (reads_back h.seat.n h.seat.number h.seat.phase (spoken h) S.size.most (omega (arith, S.to_last)) proper)

  -- written into a lent buffer
  pub written_reads_back : (buffer : List ℕ) {len : ℕ} → write_answer h buffer ≡ Ok len
      → said_to h.seat h.seat.number (take len (write_buffer h buffer)) ≡ spoken h
  unfolding write_answer write_buffer written buffered
  written_reads_back buffer {len} = go h.seat.ended (is_listener h.seat.number) (fits_in (frame_for h) buffer)
    where
      s : List ℕ
      s = frame_for h

      go : (a b c : Bool)
          → cond a (Err refusal.run_has_ended) (cond b (Err refusal.listener_sends_nothing) (cond c (Ok (length s)) (Err refusal.buffer_too_short)))
          ≡ Ok len
          → said_to h.seat h.seat.number (take len (cond a buffer (cond b buffer (cond c (s ++ drop (length s) buffer) buffer)))) ≡ spoken h
      go true b c e = let z : ◌≡◌ {A = ℕ} 0 1 = cc in absurd (omega arith)
      go false true c e = let z : ◌≡◌ {A = ℕ} 0 1 = cc in absurd (omega arith)
      go false false true e = let z : len ≡ length s = cc in rw (z, take-append_seam s (drop (length s) buffer)) spoken_reads_back
      go false false false e = let z : ◌≡◌ {A = ℕ} 0 1 = cc in absurd (omega arith)
