-- The pieces of a listing: laws only, nothing to believe.
--     opened_taken, opened-refused, opening_taken, opening_refused   the first line, and the record with it
--     next-found, next_none    the piece of an entry, and after the last; next_line, next_end: the same of entry n
use Rattle.std.specs.Prelude.{◌≡◌, List, ℕ, suc, Option, Some, None, Ok, Err}
use Rattle.std.proofs.Common.{sym, ap, ◌∙◌}
use Rattle.refusals.specs.declared.Refusal.{Refusal}
use Rattle.refusals.specs.Refusals.{refusal_number}
use Rattle.sections.specs.declared.Entry.{Entry}
use Rattle.record.specs.declared.Record.{Record}
use Rattle.record.specs.declared.Answer.{Answer}
use Rattle.scenario.specs.Scenario.{start_of, entry_of}
use Rattle.listing_lines.specs.declared.Line.{Line}
use Rattle.listing_lines.specs.Lines.{held, HoldsLine}
use Rattle.listing_runs.specs.Runs.{run_of}
use Rattle.listing_entry.specs.EntryLine.{entry_line}
use Rattle.listing.specs.declared.Opened.{Opened}
use Rattle.listing.specs.Listing.{header_line, scenario_line, entry_run, piece, opened, opening_of, next_of}

pub opened_taken : (a : Answer) → a.outcome ≡ Ok tt → opened a ≡ record { line = held header_line; start = Some a.«record» }
unfolding opened
opened_taken a e = rw (e, opened)

pub opened-refused : (a : Answer) (k : Refusal) → a.outcome ≡ Err k → opened a ≡ record { line = held (scenario_line (refusal_number k)); start = None }
unfolding opened
opened-refused a k e = rw (e, opened)

with_line : {x y : Line} (start : Option Record) → x ≡ y → ◌≡◌ {A = Opened} (record { line = x; start = start }) (record { line = y; start = start })
with_line start e = ap {B = Opened} (λ x. record { line = x; start = start }) e

module _ (text : List ℕ) {a : Answer} {x : Line} (e : a ≡ start_of text) where
  pub opening_taken : a.outcome ≡ Ok tt → HoldsLine header_line x → record { line = x; start = Some a.«record» } ≡ opening_of text
  unfolding opening_of
  opening_taken t h = with_line (Some a.«record») h.line ∙ sym (opened_taken a t) ∙ ap opened e

  pub opening_refused : (k : Refusal) → a.outcome ≡ Err k → HoldsLine (scenario_line (refusal_number k)) x → record { line = x; start = None } ≡ opening_of text
  unfolding opening_of
  opening_refused k t h = with_line None h.line ∙ sym (opened-refused a k t) ∙ ap opened e

module _ (text : List ℕ) (r : Record) (done : ℕ) where
  pub next-found : {e : Entry} → entry_of text (suc done) ≡ Ok e → next_of text r done ≡ Some (piece (entry_line (suc done) (entry_run r e)) (entry_run r e).«record»)
  unfolding next_of
  next-found q = rw (q, next_of)

  pub next_none : {k : Refusal} → entry_of text (suc done) ≡ Err k → next_of text r done ≡ None
  unfolding next_of
  next_none q = rw (q, next_of)

  pub next_end : (n : ℕ) → n ≡ suc done → {k : Refusal} → entry_of text n ≡ Err k → next_of text r done ≡ None
  next_end n s q = next_none (rw s at q)

  pub next_line : (n : ℕ) → n ≡ suc done → {e : Entry} {a : Answer} {x : Line} → entry_of text n ≡ Ok e → a ≡ run_of r e.rate e.length e.repeats → HoldsLine (entry_line n a) x
      → Some (record { line = x; «record» = a.«record» }) ≡ next_of text r done
  unfolding entry_run piece
  next_line n s {a = a} q e h =
      ap (λ x. Some (record { line = x; «record» = a.«record» })) h.line
      ∙ rw (e, s) (sym (next-found (rw s at q)))
