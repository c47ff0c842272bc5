-- The loop over the records: what is still to be done at each turn.
use Rattle.std.specs.Prelude.{Ok, Err, Some, None}
use mathlib.Core.List.{List}
use mathlib.Core.Path.{◌≡◌, refl, sym, ap, ◌∙◌, subst}
use Prim.Native.Nat.{ℕ, ◌+◌, ◌-◌, ◌*◌, ◌≤◌, ◌<◌, zero-le}
use native.Mathlib.Omega.{arith}
use lib.ListN.{length}
use lib.Seq.{sets}
use Rattle.trace.specs.Trace.{size_of, refused, record_at, records_from}
use Rattle.trace.specs.declared.Record.{Record}
use Rattle.trace.specs.declared.TraceRefusal.{TraceRefusal}
use Rattle.trace.proofs.Records.{after_found, size_bounds}
use Rattle.digits.specs.Put.{Put, Rest}
use Rattle.digits.proofs.Laws.{length_decimal_64}
use Rattle.digits.proofs.PutLaws.{put_length, put_part, put_rest}
use Rattle.lines.specs.Lines.{numbered, end_line}
use Rattle.lines.proofs.Laws.{length_numbered, length_end}
use Rattle.bus.specs.Run.{Machine, step_of}
use Rattle.replay_step.specs.Step.{access_of, line_of, Did}
use Rattle.replay_text.specs.Replay.{stop_line, left_by, text_of, left_of, room_for}
use Rattle.replay_text.proofs.Laws.{
  text_by,
  text_found,
  text_end,
  text_refused,
  left_found,
  left_end,
  left_refused,
  text_whole,
  left_whole,
}

-- at a place of the trace: what is still to be put and to be run gives the whole text and what is left at the end, and there is
-- room for the longest lines of the records from here on and for the last two
pub record Going (rom trace room₀ text : List ℕ) (left : Machine) (size : ℕ) (m : Machine) (room : List ℕ)
    (at end count : ℕ) : Type 0 where
  pub rest : Rest room end (text_by rom m count (records_from trace at)) room₀ 0 text
  pub leaves : left_by rom m (records_from trace at) ≡ left
  pub rooms : length room ≡ length room₀
  pub area : length m.area ≡ size
  pub place : at ≤ length trace
  pub counted : count ≤ at
  pub enough : 2 * end + 5 * (length trace - at) + 96 ≤ 2 * length room₀ + 1

pub going_start : (rom trace room : List ℕ) (m : Machine) → room_for (length trace) ≤ length room
    → Going rom trace room (text_of rom m trace) (left_of rom m trace) (length m.area) m room 0 0 0
unfolding room_for
going_start rom trace room m h =
    let e = text_whole rom m trace in
    record {
      rest = record { is = ap (sets room 0) e; behind = ap (λ (l : List ℕ). 0 + length l) e };
      leaves = left_whole rom m trace;
      rooms = refl;
      area = refl;
      place = zero-le;
      counted = zero-le;
      enough = omega arith;
    }

module _ {rom trace room₀ text : List ℕ} {left : Machine} {size : ℕ} {m : Machine} {room : List ℕ} {at end count : ℕ}
    (g : Going rom trace room₀ text left size m room at end count) where
  pub going_found : {after n : ℕ} {r : Record} {t : List ℕ} {next : Machine} → record_at trace at ≡ Ok (Some (r, after))
      → Did (step_of rom m (access_of r)) (access_of r) room end next t n → 2 * n ≤ 2 * end + 5 * size_of r
      → length next.area ≡ length m.area → Going rom trace room₀ text left size next t after n (count + 1)
  going_found {after} {n} {r} {t} {next} e d h l =
      let x = step_of rom m (access_of r) in
      let p = after_found trace at e in
      let line = line_of (access_of r) x.answer in
      record {
        rest =
            subst (λ (y : Machine). Rest t n (text_by rom y (count + 1) (records_from trace after)) room₀ 0 text)
            (sym d.leaves)
            (put_part line
            (subst (λ (y : List ℕ). Rest room end y room₀ 0 text) (text_found rom m count trace at e) g.rest)
            d.line);
        leaves =
            ap (λ (y : Machine). left_by rom y (records_from trace after)) d.leaves ∙ sym (left_found rom m count trace at e)
            ∙ g.leaves;
        rooms = put_length d.line ∙ g.rooms;
        area = l ∙ g.area;
        place = p.1;
        counted = omega (arith, p.0, (size_bounds r).0, g.counted);
        enough = omega (arith, p.0, p.1, h, g.enough, g.place);
      }

  pub room_step : end + 48 ≤ length room
  room_step = omega (arith, g.enough, g.rooms)

  -- the last two lines fit
  pub room_last : length trace < 18446744073709551616 → (n : ℕ) → n ≤ length trace
      → end + length (numbered 84 n) + length (end_line count) ≤ length room
  room_last small n h =
      omega (
        arith,
        room_step,
        length_numbered 84 n,
        length_decimal_64 n (omega arith),
        length_end count,
        length_decimal_64 count (omega (arith, g.counted, g.place)),
      )

  -- at the trace's end
  pub going_end : {n : ℕ} {t : List ℕ} → record_at trace at ≡ Ok None → Put room end (end_line count) t n
      → (m ≡ left) × Put room₀ 0 text t n
  going_end e p = (
    sym (left_end rom m count trace at e) ∙ g.leaves,
    put_rest (subst (λ (y : List ℕ). Rest room end y room₀ 0 text) (text_end rom m count trace at e) g.rest) p,
  )

  -- at a record refused
  pub going_refused : {n k : ℕ} {s t : List ℕ} {w : TraceRefusal} → record_at trace at ≡ Err w
      → Put room end (stop_line (refused w)) s n → Put s n (end_line count) t k → (m ≡ left) × Put room₀ 0 text t k
  going_refused {w = w} e p q = (
    sym (left_refused rom m count trace at e) ∙ g.leaves,
    put_rest
        (put_part (stop_line (refused w))
        (subst (λ (y : List ℕ). Rest room end y room₀ 0 text) (text_refused rom m count trace at e) g.rest) p)
        q,
  )
