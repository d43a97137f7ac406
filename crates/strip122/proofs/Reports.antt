-- The status and the note of each report.
use Rattle.std.proofs.Common.{ℕ, List, Bool, Option, Result}
use Rattle.base_122.specs.declared.geometry.Geometry.{Geometry}
use Rattle.strip_coder.specs.declared.encode.EncodeDone.{EncodeDone}
use Rattle.strip_coder.specs.declared.encode.EncodeFault.{EncodeFault}
use Rattle.camera_mux.specs.declared.mux.MuxDone.{MuxDone}
use Rattle.camera_mux.specs.declared.mux.MuxFault.{MuxFault}
use Rattle.strip_decoder.specs.declared.ending.DecodeDone.{DecodeDone}
use Rattle.strip_decoder.specs.declared.ending.DecodeFault.{DecodeFault}
use Rattle.bare_stream.specs.declared.fault.BareFault.{BareFault}
use Rattle.strip_decoder.specs.declared.list.ListFault.{ListFault}
use Rattle.packet_defs.specs.declared.packet.Framing.{Framing}
use Rattle.stream_defs.specs.declared.range.RowRange.{RowRange}
use Rattle.code_book.specs.declared.fault.BookFault.{BookFault}
use Rattle.strip122.specs.Notes.{memory_report, fault_report, mux_report, decoder_report, bare_report, list_report}
use Rattle.strip122.specs.DamageNotes.{done_report}
use Rattle.strip122.specs.Books.{book_report}
use Rattle.strip122.specs.Encoding.{encode_report}
use Rattle.strip122.specs.Muxing.{mux_answer_report}
use Rattle.strip122.specs.BareStreams.{bare_answer_report}
use Rattle.strip122.specs.Listing.{Reader, reader_report}
use Rattle.strip122.specs.Decoding.{decode_report}

abbrev pub memory_line : List ℕ
memory_line = memory_report.line

abbrev pub fault_status : EncodeFault → ℕ
fault_status fault = (fault_report fault).status

abbrev pub fault_line : EncodeFault → List ℕ
fault_line fault = (fault_report fault).line

abbrev pub mux_fault_status : MuxFault → ℕ
mux_fault_status fault = (mux_report fault).status

abbrev pub mux_fault_line : MuxFault → List ℕ
mux_fault_line fault = (mux_report fault).line

abbrev pub decoder_fault_status : DecodeFault → ℕ
decoder_fault_status fault = (decoder_report fault).status

abbrev pub decoder_fault_line : DecodeFault → List ℕ
decoder_fault_line fault = (decoder_report fault).line

abbrev pub bare_fault_status : BareFault → ℕ
bare_fault_status fault = (bare_report fault).status

abbrev pub bare_fault_line : BareFault → List ℕ
bare_fault_line fault = (bare_report fault).line

abbrev pub list_fault_status : ListFault → ℕ
list_fault_status fault = (list_report fault).status

abbrev pub list_fault_line : ListFault → List ℕ
list_fault_line fault = (list_report fault).line

abbrev pub book_status : BookFault → ℕ
book_status fault = (book_report fault).status

abbrev pub book_line : BookFault → List ℕ
book_line fault = (book_report fault).line

abbrev pub encode_status : Result EncodeDone EncodeFault → ℕ
encode_status answer = (encode_report answer).status

abbrev pub encode_line : Result EncodeDone EncodeFault → List ℕ
encode_line answer = (encode_report answer).line

abbrev pub mux_status : Result MuxDone MuxFault → ℕ
mux_status answer = (mux_answer_report answer).status

abbrev pub mux_line : Result MuxDone MuxFault → List ℕ
mux_line answer = (mux_answer_report answer).line

abbrev pub bare_status : Result Geometry BareFault → ℕ
bare_status answer = (bare_answer_report answer).status

abbrev pub bare_line : Result Geometry BareFault → List ℕ
bare_line answer = (bare_answer_report answer).line

abbrev pub decode_status : Result DecodeDone DecodeFault → ℕ
decode_status answer = (decode_report answer).status

abbrev pub decode_line : Result DecodeDone DecodeFault → List ℕ
decode_line answer = (decode_report answer).line

abbrev pub reader_status : {D F : Type 0} → Reader D F → Result D F → ℕ
reader_status r answer = (reader_report r answer).status

abbrev pub reader_line : {D F : Type 0} → Reader D F → Result D F → List ℕ
reader_line r answer = (reader_report r answer).line

abbrev pub done_status : List RowRange → (known : Bool) → Option Framing → ℕ
done_status ranges known framing = (done_report ranges known framing).status

abbrev pub done_line : List RowRange → (known : Bool) → Option Framing → List ℕ
done_line ranges known framing = (done_report ranges known framing).line
