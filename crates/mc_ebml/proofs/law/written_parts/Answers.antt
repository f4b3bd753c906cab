use Rattle.std.proofs.Common.{◌+◌, ◌*◌, ◌^◌, ◌++◌, refl, append_assoc}
use Rattle.byteorder.specs.Numbers.{length-bytes_high_first}
use Rattle.mc_ebml.specs.Laws.{CodedHaveWidth, HeadsReadBack}
use Rattle.mc_ebml.specs.Written.{coded_octets, coded_width, head_octets}
use Rattle.mc_ebml.proofs.ReadBack.{coded_stands, head_has, text_reads, uint_reads}
use Rattle.mc_ebml.proofs.law.written_parts.Goals as goal

heads_read_back : HeadsReadBack
heads_read_back id size before rest is fits =
    let stands = head_has id size before (before ++ head_octets id size) is fits refl rest in
    rw (append_assoc before (head_octets id size) rest) at stands

coded_have_width : CodedHaveWidth
unfolding coded_octets
coded_have_width n = length-bytes_high_first (coded_width n) (2 ^ (7 * coded_width n) + n)

pub returns : goal.returns
returns c = record {
  heads = heads_read_back;
  coded = coded_stands;
  coded_width = coded_have_width;
  integers = uint_reads;
  texts = text_reads;
}
