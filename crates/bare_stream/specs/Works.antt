-- Works that write the segments of an image as texts. (This project's own.)
use Rattle.std.specs.Prelude.{◌≡◌, ◌≤◌, ◌*◌, ◌^◌, length}
use Rattle.base_122.specs.Setting.{sized}
use Rattle.base_122.specs.declared.setting.Setting.{Setting}
use Rattle.strip_coder.specs.Forms.{Form}
use Rattle.strip_coder.specs.Plans.{Job}
use Rattle.bare_stream.specs.Bare.{first_texts}

-- Segments as texts. There is no bound on all of them, and their octets are counted.
abbrev pub texts : Form
texts = record {
  octets = λ s rows all n. first_texts (sized s rows) all n;
  ready = λ s packets index used. (s.total ≡ 0) × (used ≤ index * 2 ^ 32);
  holds = λ s rows all packets index used. used ≡ length (first_texts (sized s rows) all index);
}

-- the image of a setting with rows
abbrev pub job : Setting → Job
job s = record { setting = s; rows = s.rows; form = texts }
