-- Lines one after the other, where a heading is due.
use Rattle.std.proofs.Common.{◌≡◌, ℕ, ◌+◌, ◌<◌, ◌≤◌, List, length, get_or, drop, Result, Err, sym, ap, ◌∙◌}
use Rattle.std.proofs.lemmas.List.{drop_more, drop_all}
use Rattle.lvdc_text.specs.declared.cutting.Line.{Line}
use Rattle.lvdc_text.specs.Lines.{part_of}
use Rattle.lvdc_uplink.specs.declared.fault.PatchFault.{PatchFault}
use Rattle.lvdc_uplink.specs.declared.heading.Heading.{Heading}
use Rattle.lvdc_uplink.specs.declared.heading.LineKind.{LineKind}
use Rattle.lvdc_uplink.specs.Input.{missing, kind_of, by_kind, from_heading}

-- what an index past the end reads
abbrev pub no_line : Line
no_line = record { number = 0; start = 0; end = 0 }

module _ (heading : Heading) (bytes : List ℕ) (next : ℕ) (lines : List Line) (i : ℕ) (d : Line) (total : Result (List Line) PatchFault)
    (so_far : from_heading heading bytes next (drop i lines) ≡ total) where
  pub heading-by : i < length lines → (kind : LineKind) → kind ≡ kind_of heading (part_of bytes (get_or lines i d))
      → by_kind heading kind (get_or lines i d) (drop (i + 1) lines) (from_heading heading bytes next (drop (i + 1) lines)) ≡ total
  unfolding from_heading
  heading-by within kind is =
      ap (λ (k : LineKind). by_kind heading k (get_or lines i d) (drop (i + 1) lines) (from_heading heading bytes next (drop (i + 1) lines))) is
      ∙ ap (from_heading heading bytes next) (sym (drop_more lines i d within)) ∙ so_far

  pub heading-none : length lines ≤ i → total ≡ Err (missing heading next)
  unfolding from_heading
  heading-none all = sym so_far ∙ ap (from_heading heading bytes next) (drop_all i lines all)
