-- The listing of a scenario text (document 01, the last paragraph of 'A step'), whole and piece by piece.
use Rattle.std.specs.Prelude.{List, [], ◌∷◌, ◌++◌, map, ℕ, zero, suc, take, Option, Some, None, Ok, Err}
use Rattle.laws.specs.Lists.{range}
use Rattle.limits.specs.Limits.{entry_limit}
use Rattle.refusals.specs.Refusals.{refusal_number}
use Rattle.decimal.specs.Decimal.{digits_of}
use Rattle.text.specs.Text.{numbers}
use Rattle.sections.specs.declared.Entry.{Entry}
use Rattle.sections.specs.Sections.{entries_of, entry_at}
use Rattle.record.specs.declared.Record.{Record}
use Rattle.record.specs.declared.Answer.{Answer}
use Rattle.scenario.specs.Scenario.{start_of, entry_of}
use Rattle.listing_lines.specs.declared.Line.{Line}
use Rattle.listing_lines.specs.Word.{word}
use Rattle.listing_lines.specs.Lines.{line_from, held}
use Rattle.listing_runs.specs.Runs.{run_of}
use Rattle.listing_entry.specs.EntryLine.{entry_line}
use Rattle.listing.specs.declared.Opened.{Opened}
use Rattle.listing.specs.declared.Piece.{Piece}

-- ---- the first line

unfoldable pub header_line : List ℕ
header_line =
    line_from (word "entry" ∷ word "us" ∷ word "well" ∷ word "pumped" ∷ word "wellloss" ∷ word "cellloss" ∷ word "inflow" ∷ [])

-- a refused scenario, by its number
unfoldable pub scenario_line : ℕ → List ℕ
scenario_line refusal = line_from (word "scenario" ∷ digits_of refusal ∷ [])

-- ---- the listing of a text

-- its pumping entries
unfoldable pub pumping_in : List ℕ → List Entry
pumping_in text = map (entry_at (numbers text)) (range 0 (entries_of (numbers text)))

unfoldable pub entry_run : Record → Entry → Answer
entry_run r e = run_of r e.rate e.length e.repeats

-- the lines of entries n, n + 1, ..: each runs from the record that the one before it left
unfoldable pub lines_of : ℕ → List Entry → Record → List ℕ
lines_of n [] r = []
lines_of n (e ∷ es) r = entry_line n (entry_run r e) ++ lines_of (suc n) es (entry_run r e).«record»

-- the header and a line an entry, counted from 1; of a refused scenario its number alone
unfoldable pub listing_of : List ℕ → List ℕ
listing_of text =
    elim (start_of text).outcome [
      | Ok u ↦ header_line ++ lines_of 1 (pumping_in text) (start_of text).«record»
      | Err k ↦ scenario_line (refusal_number k)
    ]

-- ---- the listing piece by piece

-- the first line, and the record from which the entries run, none where the text is refused; by the answer of start
unfoldable pub opened : Answer → Opened
opened a =
    elim a.outcome [
      | Ok u ↦ record { line = held header_line; start = Some a.«record» }
      | Err k ↦ record { line = held (scenario_line (refusal_number k)); start = None }
    ]

unfoldable pub opening_of : List ℕ → Opened
opening_of text = opened (start_of text)

-- a line, and the record from which the next entry runs
unfoldable pub piece : List ℕ → Record → Piece
piece l r = record { line = held l; «record» = r }

-- the piece after the first `done` entries, which left record r; after the last nothing follows
unfoldable pub next_of : List ℕ → Record → ℕ → Option Piece
next_of text r done =
    elim (entry_of text (suc done)) [
      | Ok e ↦ Some (piece (entry_line (suc done) (entry_run r e)) (entry_run r e).«record»)
      | Err k ↦ None
    ]

-- ---- what a program prints of them

-- a line's bytes, without the 0 after the last
abbrev pub bytes_of : Line → List ℕ
bytes_of x = take x.length x.bytes

-- the bytes of at most n pieces after the first `done` entries, which left record r
unfoldable pub printed_from : ℕ → List ℕ → ℕ → Record → List ℕ
printed_from zero text done r = []
printed_from (suc n) text done r =
    elim (next_of text r done) [
      | Some p ↦ bytes_of p.line ++ printed_from n text (suc done) p.«record»
      | None ↦ []
    ]

-- the bytes of the first line, and of a piece for each entry that a text can have
unfoldable pub printed : List ℕ → List ℕ
printed text =
    bytes_of (opening_of text).line ++ elim (opening_of text).start [
      | Some r ↦ printed_from entry_limit text 0 r
      | None ↦ []
    ]

-- the record that the first k pieces leave
unfoldable pub record_after : List ℕ → ℕ → Record
record_after text zero = (start_of text).«record»
record_after text (suc k) =
    elim (next_of text (record_after text k) k) [
      | Some p ↦ p.«record»
      | None ↦ record_after text k
    ]
