-- What the pieces print, one after the other, is the listing: laws only, nothing to believe.
--     next_past        no text has an entry after 500
--     after_entry, after_last   what is printed after the first entries, where another follows, and where none does
--     entry_bounded    the run of an entry takes no longer than it can, and what refuses it has a number of document 01
--     text_numbered    what refuses a text has one too
--     line_short       the line of an entry has at most 114 bytes, if those before it took no longer than they can
--     listing_printed  the bytes of all pieces are the listing
--     short            the line after the first k entries of a text has at most 114 bytes
use Rattle.std.specs.Prelude.{◌≡◌, List, [], ◌∷◌, ◌++◌, map, ℕ, zero, suc, ◌+◌, ◌-◌, ◌*◌, ◌^◌, ◌≤◌, length, Some, None, Result, Ok, Err}
use Rattle.std.proofs.Common.{refl, sym, ap, ap₂, ◌∙◌, append-nil, arith, lit≤, length-append}
use Rattle.std.proofs.Math.Nat.{mul-le-mul_right}
use Rattle.laws.specs.Lists.{every, range}
use Rattle.laws.specs.Refusal.{first_most}
use Rattle.decimal.specs.Decimal.{digits_of}
use Rattle.decimal.specs.Laws.{few_digits}
use Rattle.text.specs.Text.{numbers}
use Rattle.limits.specs.Limits.{length_limit}
use Rattle.refusals.specs.declared.Refusal.{Refusal}
use Rattle.refusals.specs.Refusals.{refusal_number}
use Rattle.sections.specs.declared.Entry.{Entry}
use Rattle.sections.specs.Sections.{form_tests, section_tests, entries_of, entry_at}
use Rattle.record.specs.declared.Record.{Record}
use Rattle.record.specs.Record.{zero_record, answer_of}
use Rattle.record.specs.Laws.{outcome_of_lem, taken_of}
use Rattle.coefficients.specs.Coefficients.{start_record}
use Rattle.scenario.specs.Scenario.{scenario_of, number_tests, text_tests, text_refusal, start_of, entry_of}
use Rattle.listing_lines.specs.Word.{word}
use Rattle.listing_lines.specs.Lines.{line_feed, line_from, line_bytes, held}
use Rattle.listing_lines.specs.Laws.{take-padded}
use Rattle.listing_runs.specs.Bounded.{most_refusal, Numbered, Bounded, numbered, run_bounded}
use Rattle.listing_runs.specs.Time.{run_time}
use Rattle.listing_entry.specs.EntryLine.{entry_line}
use Rattle.listing_entry.specs.Length.{number_most, entry_short}
use Rattle.listing.specs.declared.Opened.{Opened}
use Rattle.listing.specs.declared.Piece.{Piece}
use Rattle.listing.specs.Listing.{header_line, scenario_line, pumping_in, entry_run, lines_of, listing_of, piece, opening_of, next_of, bytes_of, printed_from, printed, record_after}
use Rattle.listing.specs.Laws.{opened_taken, opened-refused, next-found, next_none}
use Rattle.listing.specs.Entries.{Entered, entry_found, entry_is, entry_past, entries_most, repeats_most, past_most}

module _ (text : List ℕ) (r : Record) (done : ℕ) where
  pub next_past : 500 ≤ done → next_of text r done ≡ None
  next_past h = by_entry (entry_of text (suc done)) refl
    where
      by_entry : (p : Result Entry Refusal) → entry_of text (suc done) ≡ p → next_of text r done ≡ None
      by_entry (Ok e) q = absurd (past_most text (suc done) (omega arith) q)
      by_entry (Err k) q = next_none text r done q

  pub after_entry : (n : ℕ) {p : Piece} → next_of text r done ≡ Some p → printed_from (suc n) text done r ≡ bytes_of p.line ++ printed_from n text (suc done) p.«record»
  unfolding printed_from
  after_entry n e = rw (e, printed_from) refl

  pub after_last : (n : ℕ) → next_of text r done ≡ None → printed_from n text done r ≡ []
  unfolding printed_from
  after_last zero e = refl
  after_last (suc n) e = rw (e, printed_from) refl

-- the longest that an entry can take, µs
abbrev pub entry_time : ℕ
entry_time = 10 ^ 6 * length_limit

-- ---- the run of an entry that follows `done` others
module _ (text : List ℕ) (r : Record) (done : ℕ) (time : r.time ≤ done * entry_time) {e : Entry} (there : Entered text (suc done) e) where
  pub time_after : (entry_run r e).«record».time ≤ suc done * entry_time
  unfolding entry_run
  time_after =
      let most : e.repeats ≤ 1000000 = rw there.entry at (repeats_most text there.accepted (suc done - 1) (omega (arith, there.most))) in
      omega (arith, run_time e.rate e.length e.repeats (done * entry_time) r time, mul-le-mul_right length_limit most)

  pub entry_bounded : Bounded (suc done * entry_time) (entry_run r e)
  unfolding entry_run
  entry_bounded = record { time = time_after; number = (run_bounded e.rate e.length e.repeats (done * entry_time) r time).number }

  pub line_short : length (entry_line (suc done) (entry_run r e)) ≤ 114
  line_short =
      let few : suc done ≤ 500 = omega (arith, there.most, entries_most text there.accepted) in
      entry_short (suc done) few (entry_run r e) (omega (arith, time_after, mul-le-mul_right entry_time few))

-- ---- the listing

bytes_held : (l : List ℕ) → length l ≤ line_bytes → bytes_of (held l) ≡ l
unfolding held
bytes_held l h = take-padded line_bytes l h

module _ (text : List ℕ) (ok : text_refusal text ≡ 0) where
  lines-printed : (n m done : ℕ) (r : Record) → m ≤ n → done + m ≡ entries_of (numbers text) → r.time ≤ done * entry_time
      → printed_from n text done r ≡ lines_of (suc done) (map (entry_at (numbers text)) (range done m)) r
  unfolding lines_of range piece
  lines-printed n zero done r h e t = after_last text r done n (next_none text r done (entry_past text ok (suc done) (omega arith)))
  lines-printed zero (suc m) done r h e t = absurd (omega arith)
  lines-printed (suc n) (suc m) done r h e t =
      let same : suc done - 1 ≡ done = omega arith in
      let there = rw same at (entry_is text ok (suc done) (omega arith) (omega arith)) in
      let entered = entry_found text (suc done) there in
      after_entry text r done n (next-found text r done there)
      ∙ ap₂ ◌++◌
      (bytes_held _ (omega (arith, line_short text r done t entered)))
      (lines-printed n m (suc done) (entry_run r (entry_at (numbers text) done)).«record» (omega arith) (omega arith) (time_after text r done t entered))

-- ---- the first line

module _ (old new : Record) where
  answer_time : (m : ℕ) → old.time ≡ 0 → new.time ≡ 0 → (answer_of m old new).«record».time ≡ 0
  unfolding answer_of
  answer_time zero h k = k
  answer_time (suc m) h k = h

scenario_short : (k : Refusal) → length (scenario_line (refusal_number k)) ≤ line_bytes
unfolding scenario_line line_from word
scenario_short k =
    let m = refusal_number k in
    let most = number_most k in
    omega (arith, few_digits 2 m (omega arith) (omega (arith, most)), length-append (digits_of m) (line_feed ∷ []))

header_short : length header_line ≤ line_bytes
unfolding header_line line_from word
header_short = lit≤ tt

module _ (text : List ℕ) where
  start_time : (start_of text).«record».time ≡ 0
  unfolding start_of start_record zero_record
  start_time = answer_time zero_record (start_record (scenario_of text)) (text_refusal text) refl refl

  text_number : text_refusal text ≤ most_refusal
  unfolding text_refusal text_tests form_tests section_tests number_tests every
  text_number = first_most most_refusal (text_tests text) refl

  pub text_numbered : Numbered (start_of text).outcome
  unfolding start_of
  text_numbered k e = numbered (text_refusal text) text_number k (sym (outcome_of_lem (text_refusal text) zero_record _) ∙ e)

  listing_taken : (start_of text).outcome ≡ Ok tt → listing_of text ≡ header_line ++ lines_of 1 (pumping_in text) (start_of text).«record»
  unfolding listing_of
  listing_taken e = rw (e, listing_of)

  listing_refused : (k : Refusal) → (start_of text).outcome ≡ Err k → listing_of text ≡ scenario_line (refusal_number k)
  unfolding listing_of
  listing_refused k e = rw (e, listing_of)

  -- what is printed after a first line
  abbrev after : Opened → List ℕ
  after o = bytes_of o.line ++ elim o.start [ Some r ↦ printed_from 500 text 0 r | None ↦ [] ]

  by_outcome : (o : Result Unit Refusal) → (start_of text).outcome ≡ o → printed text ≡ listing_of text
  unfolding printed opening_of pumping_in start_of
  by_outcome (Ok u) e =
      let ok = taken_of (text_refusal text) (sym (outcome_of_lem (text_refusal text) zero_record _) ∙ e) in
      ap after (opened_taken (start_of text) e)
      ∙ ap₂ ◌++◌
      (bytes_held header_line header_short)
      (lines-printed text ok 500 (entries_of (numbers text)) 0 (start_of text).«record» (entries_most text ok) (omega arith) (omega (arith, start_time)))
      ∙ sym (listing_taken e)
  by_outcome (Err k) e =
      ap after (opened-refused (start_of text) k e)
      ∙ append-nil _
      ∙ bytes_held (scenario_line (refusal_number k)) (scenario_short k)
      ∙ sym (listing_refused k e)

  pub listing_printed : printed text ≡ listing_of text
  listing_printed = by_outcome (start_of text).outcome refl

-- ---- lines in a run from start

module _ (text : List ℕ) where
  after_time : (k : ℕ) → (record_after text k).time ≤ k * entry_time
  unfolding record_after piece
  after_time zero = omega (arith, start_time text)
  after_time (suc k) = by_entry (after_time k) (entry_of text (suc k)) refl
    where
      by_entry : (record_after text k).time ≤ k * entry_time → (p : Result Entry Refusal) → entry_of text (suc k) ≡ p → (record_after text (suc k)).time ≤ suc k * entry_time
      by_entry t (Ok e) q = rw (next-found text (record_after text k) k q, record_after) (time_after text (record_after text k) k t (entry_found text (suc k) q))
      by_entry t (Err n) q = rw (next_none text (record_after text k) k q, record_after) (omega arith)

  pub short : (k : ℕ) (p : Piece) → next_of text (record_after text k) k ≡ Some p → p.line.length ≤ 114
  unfolding piece held
  short k p s = by_entry (entry_of text (suc k)) refl
    where
      by_entry : (e : Result Entry Refusal) → entry_of text (suc k) ≡ e → p.line.length ≤ 114
      by_entry (Ok e) q =
          let there : Some p ≡ Some (piece (entry_line (suc k) (entry_run (record_after text k) e)) (entry_run (record_after text k) e).«record») = sym s ∙ next-found text (record_after text k) k q in
          let same : p ≡ piece (entry_line (suc k) (entry_run (record_after text k) e)) (entry_run (record_after text k) e).«record» = cc in
          rw same (line_short text (record_after text k) k (after_time k) (entry_found text (suc k) q))
      by_entry (Err n) q = let none : Some p ≡ None = sym s ∙ next_none text (record_after text k) k q in absurd (grind arith)
