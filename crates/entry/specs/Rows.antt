-- Document 01, "Entries": the rows of its table, which row an entry belongs to, and each row's tag and least L.
-- Assumes nothing.
use Rattle.std.specs.Prelude.{cond, List, [], ◌∷◌, ℕ, ◌+◌, leb, eqb, length}
use Rattle.bits.specs.Bits.{byte, bits, bit}

pub data Row : Type 0 where
  unknown : Row
  adapter : Row
  unused : Row
  display_port : Row
  lane : Row
  pcie_up : Row
  pcie_down : Row
  generic : Row
  ascii_vendor : Row
  ascii_model : Row
  tmu : Row
  product : Row
  serial : Row
  usb3_map : Row
  utf16_vendor : Row
  utf16_model : Row
  data_path : Row
  dptx : Row
  embedded_link : Row

abbrev pub tag : Row → ℕ
tag unknown = 0
tag adapter = 1
tag unused = 2
tag display_port = 3
tag lane = 4
tag pcie_up = 5
tag pcie_down = 6
tag generic = 7
tag ascii_vendor = 8
tag ascii_model = 9
tag tmu = 10
tag product = 11
tag serial = 12
tag usb3_map = 13
tag utf16_vendor = 14
tag utf16_model = 15
tag data_path = 16
tag dptx = 17
tag embedded_link = 18

-- The least L. For DPTX it is 5 + n, with n in byte 3 bits 3..0.
abbrev pub least : Row → List ℕ → ℕ
least unknown bs = 1
least adapter bs = 2
least unused bs = 2
least display_port bs = 5
least lane bs = 4
least pcie_up bs = 3
least pcie_down bs = 3
least generic bs = 2
least ascii_vendor bs = 3
least ascii_model bs = 3
least tmu bs = 3
least product bs = 14
least serial bs = 4
least usb3_map bs = 2
least utf16_vendor bs = 2
least utf16_model bs = 2
least data_path bs = 4
least dptx bs = 5 + bits 3 0 (byte 3 bs)
least embedded_link bs = 3

-- The text of a row: none; a name, from byte 2 up to the first zero; or UTF-16, from a byte on.
pub data Text : Type 0 where
  no_text : Text
  name : Text
  utf16_from : ℕ → Text

abbrev pub text_in : Row → Text
text_in unknown = no_text
text_in adapter = no_text
text_in unused = no_text
text_in display_port = no_text
text_in lane = no_text
text_in pcie_up = no_text
text_in pcie_down = no_text
text_in generic = no_text
text_in ascii_vendor = name
text_in ascii_model = name
text_in tmu = no_text
text_in product = no_text
text_in serial = utf16_from 4
text_in usb3_map = no_text
text_in utf16_vendor = utf16_from 2
text_in utf16_model = utf16_from 2
text_in data_path = no_text
text_in dptx = no_text
text_in embedded_link = no_text

-- the row that stands beside a number, or else another
abbrev pub choose : ℕ → List (ℕ × Row) → Row → Row
choose k [] else = else
choose k (r ∷ rows) else = cond (eqb k r.0) r.1 (choose k rows else)

-- the rows of the generic kinds that have one
abbrev pub generic_rows : List (ℕ × Row)
generic_rows =
    (0x01, ascii_vendor) ∷ (0x02, ascii_model) ∷ (0x08, tmu) ∷ (0x09, product) ∷ (0x0A, serial) ∷ (0x0B, usb3_map)
    ∷ (0x0C, utf16_vendor) ∷ (0x0D, utf16_model) ∷ (0x0E, data_path) ∷ (0x0F, dptx) ∷ (0x10, embedded_link) ∷ []

-- the row of a generic kind
abbrev pub generic_row : ℕ → Row
generic_row kind = choose kind generic_rows generic

-- the rows of the listed kinds but other
abbrev pub adapter_rows : List (ℕ × Row)
adapter_rows = (1, lane) ∷ (2, display_port) ∷ (3, display_port) ∷ (4, pcie_up) ∷ (5, pcie_down) ∷ []

-- the row of a used adapter, by its listed kind
abbrev pub adapter_row : ℕ → Row
adapter_row kind = choose kind adapter_rows adapter

-- "L = 1 is Unknown. If bit 7 of the kind byte is set it is an adapter with its number in bits 5..0: bit 6 set is Unused; otherwise the
-- listed kind decides. Without bit 7, bits 5..0 are the generic kind and bit 6 is ignored."
unfoldable pub row_of : ℕ → List ℕ → Row
row_of kind bs =
    cond (leb (length bs) 1) unknown
    (cond (bit 7 (byte 1 bs)) (cond (bit 6 (byte 1 bs)) unused (adapter_row kind)) (generic_row (bits 5 0 (byte 1 bs))))
