-- RULES K1 to K12: one statement over the table (RULES D12), by one computed test, and the fact at each entry. Assumes nothing.
use Rattle.std.specs.Prelude.{◌≡◌, refl, true, [], ◌∷◌, map, ℕ, ◌<◌, length, get_or}
use Rattle.octets.specs.Numbers.{all_zero, number_at}
use Rattle.octets.specs.Lists.{All, same}
use Rattle.octets.specs.ListsLaws.{all-at}
use Rattle.octets.specs.Fields.{part, number, counted}
use Rattle.octets.specs.Over.{over}
use Rattle.carriers.specs.Carriers.{chosen_of}
use Rattle.names.specs.Names.{alnum}
use Rattle.names.specs.Automaton.{walk}
use Rattle.names.specs.Wire.{name_check}
use Rattle.texts.specs.TextCheck.{text_check}
use Rattle.texts.specs.Texts.{run, wire_from, wire_of, dots_from, text_of}
use Rattle.addresses.specs.Addresses.{unusable4, unusable16, unusable, list_of, kept_of, has_of}
use Rattle.svcparams.specs.Params.{params_fault, pairs_from, size_of, rising, has, has_hint, strings_from, alpn_good, value_good, all_good}
use Rattle.svcparams.specs.Param.{keys}
use Rattle.frames.specs.Frame.{frame_from}
use Rattle.blocks.specs.Block.{layout}
use Rattle.blocks.specs.Parse.{is_padding, parse}
use Rattle.judge.specs.Judge.{tail_fault, judged_of}
use Rattle.records.specs.Records.{record_of}
use Rattle.records.specs.Yielded.{outcome_of}
use Rattle.sheets.specs.Sheets.{front_of, sheet_of}
use Rattle.reading.specs.Reading.{instances_from, joined_yield, read_of}
use Rattle.taking.specs.Taking.{head_of, records_from, take_of}
use Rattle.pieces.specs.Pieces.{pieces, cut_of}
use Rattle.vetting.specs.Vetting.{first_fault, vet_of, any_large}
use Rattle.written.specs.Writing.{write_of}
use Rattle.written.specs.Octets.{octets_of}
use Rattle.boundary.specs.Piece.{Piece, Holds}
use Rattle.boundary.specs.Table.{table}
use Rattle.boundary.specs.Test.{every, good}
use Rattle.boundary.specs.TestLaws.{every-all, good-holds}

-- every entry passes the test
pub computed : every good table ≡ true
unfolding read_of chosen_of frame_from number_at parse part number counted is_padding all_zero instances_from joined_yield outcome_of judged_of
    name_check text_check walk alnum wire_of wire_from run
    tail_fault list_of kept_of unusable unusable4 unusable16
    params_fault pairs_from size_of keys rising has has_hint strings_from alpn_good value_good all_good
    record_of front_of sheet_of over
    write_of vet_of take_of head_of same records_from has_of first_fault any_large octets_of layout text_of dots_from cut_of pieces
computed = refl

-- each piece is as its row says (RULES K1 to K12)
pub boundary : All Holds table
boundary = every-all good Holds good-holds table computed

-- K1 to K12 are there, each by its number
pub named : map (λ (p : Piece). p.k) table ≡ 1 ∷ 2 ∷ 3 ∷ 4 ∷ 5 ∷ 6 ∷ 6 ∷ 6 ∷ 6 ∷ 6 ∷ 7 ∷ 8 ∷ 9 ∷ 10 ∷ 11 ∷ 12 ∷ []
named = refl

-- the fact at each entry
pub boundary-at : (d : Piece) (i : ℕ) → i < length table → Holds (get_or table i d)
boundary-at d i h = all-at Holds d table boundary i h
