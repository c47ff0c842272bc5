-- The replay by what stands at a place of the trace.
use Rattle.std.specs.Prelude.{Ok, Err, Some, None}
use mathlib.Core.List.{List, ◌++◌, append_assoc}
use mathlib.Core.Path.{◌≡◌, refl, ap, ◌∙◌}
use Prim.Native.Nat.{ℕ, suc, ◌+◌}
use native.Mathlib.Nat.{add-zero}
use native.Mathlib.Omega.{arith}
use lib.ListN.{length}
use Rattle.trace.specs.Trace.{refused, record_at, Records, records_from, records_of}
use Rattle.trace.specs.declared.Record.{Record}
use Rattle.trace.specs.declared.TraceRefusal.{TraceRefusal}
use Rattle.trace.proofs.Records.{from_record, from_end, from_refused}
use Rattle.lines.specs.Lines.{end_line}
use Rattle.bus.specs.Run.{Machine, step_of}
use Rattle.replay_step.specs.Step.{access_of, line_of}
use Rattle.replay_text.specs.Replay.{stop_line, lines_by, left_by, text_of, left_of}

-- ---- the text from a place on, where k records stood before it

abbrev pub text_by : List ℕ → Machine → ℕ → Records → List ℕ
text_by rom m k rs = lines_by rom m rs ++ (stop_line rs.stop ++ end_line (k + length rs.records))

module _ (rom : List ℕ) (m : Machine) (k : ℕ) (s : List ℕ) (at : ℕ) where
  pub text_found : {after : ℕ} {r : Record} → record_at s at ≡ Ok (Some (r, after))
      → text_by rom m k (records_from s at)
      ≡ line_of (access_of r) (step_of rom m (access_of r)).answer
      ++ text_by rom (step_of rom m (access_of r)).left (k + 1) (records_from s after)
  text_found {after} {r} e =
      let x = step_of rom m (access_of r) in
      let rs = records_from s after in
      let n : k + suc (length rs.records) ≡ k + 1 + length rs.records = omega arith in
      ap (text_by rom m k) (from_record s at e)
      ∙ append_assoc (line_of (access_of r) x.answer) (lines_by rom x.left rs)
      (stop_line rs.stop ++ end_line (k + suc (length rs.records)))
      ∙ ap (λ (j : ℕ). line_of (access_of r) x.answer ++ (lines_by rom x.left rs ++ (stop_line rs.stop ++ end_line j))) n

  pub text_end : record_at s at ≡ Ok None → text_by rom m k (records_from s at) ≡ end_line k
  text_end e = ap (text_by rom m k) (from_end s at e) ∙ ap end_line (add-zero k)

  pub text_refused : {w : TraceRefusal} → record_at s at ≡ Err w
      → text_by rom m k (records_from s at) ≡ stop_line (refused w) ++ end_line k
  text_refused {w} e =
      ap (text_by rom m k) (from_refused s at e) ∙ ap (λ (j : ℕ). stop_line (refused w) ++ end_line j) (add-zero k)

  pub left_found : {after : ℕ} {r : Record} → record_at s at ≡ Ok (Some (r, after))
      → left_by rom m (records_from s at) ≡ left_by rom (step_of rom m (access_of r)).left (records_from s after)
  left_found e = ap (left_by rom m) (from_record s at e)

  pub left_end : record_at s at ≡ Ok None → left_by rom m (records_from s at) ≡ m
  left_end e = ap (left_by rom m) (from_end s at e)

  pub left_refused : {w : TraceRefusal} → record_at s at ≡ Err w → left_by rom m (records_from s at) ≡ m
  left_refused e = ap (left_by rom m) (from_refused s at e)

pub text_whole : (rom : List ℕ) (m : Machine) (s : List ℕ) → text_by rom m 0 (records_from s 0) ≡ text_of rom m s
unfolding text_of records_of
text_whole rom m s =
    let rs = records_from s 0 in
    let n : 0 + length rs.records ≡ length rs.records = omega arith in
    ap (λ (j : ℕ). lines_by rom m rs ++ (stop_line rs.stop ++ end_line j)) n

pub left_whole : (rom : List ℕ) (m : Machine) (s : List ℕ) → left_by rom m (records_from s 0) ≡ left_of rom m s
unfolding left_of records_of
left_whole rom m s = refl
