-- `record::put_payload` meets its contract. The bytes decode to the entry: so there is room for its payload, and what its arm takes a part of
-- is long enough.
-- Assumes nothing.
use mathlib.Core.Path.{refl, sym, ap, ◌∙◌}
use mathlib.Core.List.{[], ◌∷◌}
use native.Mathlib.Omega.{arith}
use native.Mathlib.Nat.{add-sub_cancel_left}
use borrow.Author.Rules.{rules, part_to_end}
use Prim.Native.Nat.{◌+◌}
use lib.ListN.{take, drop, length-take, length-drop}
use lib.Seq.{get_or-drop}
use mir.Facts.{to_z-of_z}
use mir.Syntax.{w8}
use mir.Val.{SFits}
use Rattle.bits.specs.Bits.{Bytes, flag}
use Rattle.bits.specs.Fields.{◌∶◌, z, zz, zzz, byte_fields, pack}
use Rattle.bits.proofs.LawsFields.{pack_nil, pack_all, part_bytes}
use Rattle.bits.proofs.LawsFront.{wrote_none}
use Rattle.util.specs.Utf16.{utf16_text}
use Rattle.record.specs.Record.{map_fields, rank_fields, payload_of}
use Rattle.record.proofs.Known.{fits, counted, even}
use Rattle.record.proofs.PayloadPut.{whole_put, front_put, bytes_put, pcie_is, name_is, text_is}
use Rattle.record.proofs.TextLaws.{text_bytes}
use Rattle.record.proofs.write.put_payload.Goals as goal

-- ---- the parts

pub slice_bounds-put_all-count : goal.slice_bounds-put_all-count
slice_bounds-put_all-count c = omega (arith, fits c.args.bytes.now (rw c.in-Generic.is at c.requires.decodes))

pub slice_bounds-put_all-start : goal.slice_bounds-put_all-start
slice_bounds-put_all-start c = omega (arith, fits c.args.bytes.now (rw c.in-Generic.is at c.requires.decodes))

pub slice_bounds-put_all-count-in-Generic : goal.slice_bounds-put_all-count-in-Generic
slice_bounds-put_all-count-in-Generic c = omega (arith, fits c.args.bytes.now (rw c.in-Generic.is at c.requires.decodes))

pub slice_bounds-put_all-start-in-Generic : goal.slice_bounds-put_all-start-in-Generic
slice_bounds-put_all-start-in-Generic c = omega (arith, fits c.args.bytes.now (rw c.in-Generic.is at c.requires.decodes))

pub overflow_add-length : goal.overflow_add-length
overflow_add-length c = omega (arith, (name_is c.args.bytes.now c.requires.decodes c.in-AsciiVendorName.is).0)

pub slice_bounds-put_all-end-in-AsciiVendorName : goal.slice_bounds-put_all-end-in-AsciiVendorName
slice_bounds-put_all-end-in-AsciiVendorName c = omega (arith, (name_is c.args.bytes.now c.requires.decodes c.in-AsciiVendorName.is).0)

pub slice_bounds-put_all-count-in-AsciiVendorName-2 : goal.slice_bounds-put_all-count-in-AsciiVendorName-2
slice_bounds-put_all-count-in-AsciiVendorName-2 c = omega (arith, (name_is c.args.bytes.now c.requires.decodes c.in-AsciiVendorName.is).0)

pub slice_bounds-put_all-start-in-AsciiVendorName-2 : goal.slice_bounds-put_all-start-in-AsciiVendorName-2
slice_bounds-put_all-start-in-AsciiVendorName-2 c = omega (arith, (name_is c.args.bytes.now c.requires.decodes c.in-AsciiVendorName.is).0)

pub slice_bounds-put_utf16-count : goal.slice_bounds-put_utf16-count
slice_bounds-put_utf16-count c = omega (arith, fits c.args.bytes.now (rw c.in-SerialNumber.is at c.requires.decodes))

pub slice_bounds-put_utf16-start : goal.slice_bounds-put_utf16-start
slice_bounds-put_utf16-start c = omega (arith, fits c.args.bytes.now (rw c.in-SerialNumber.is at c.requires.decodes))

pub slice_bounds-put_utf16-count-in-SerialNumber : goal.slice_bounds-put_utf16-count-in-SerialNumber
slice_bounds-put_utf16-count-in-SerialNumber c = omega (arith, fits c.args.bytes.now (rw c.in-SerialNumber.is at c.requires.decodes))

pub slice_bounds-put_utf16-start-in-SerialNumber : goal.slice_bounds-put_utf16-start-in-SerialNumber
slice_bounds-put_utf16-start-in-SerialNumber c = omega (arith, fits c.args.bytes.now (rw c.in-SerialNumber.is at c.requires.decodes))

pub put_utf16-requires : goal.put_utf16-requires
put_utf16-requires c =
    let bs = c.args.bytes.now in
    let d = rw c.in-SerialNumber.is at c.requires.decodes in
    simp (length-take, length-drop) (omega (arith, even bs d 4 refl, fits bs d), omega (arith, fits bs d))

pub slice_bounds-put_maps-count : goal.slice_bounds-put_maps-count
slice_bounds-put_maps-count c = omega (arith, fits c.args.bytes.now (rw c.in-Usb3PortMapping.is at c.requires.decodes))

pub slice_bounds-put_maps-start : goal.slice_bounds-put_maps-start
slice_bounds-put_maps-start c = omega (arith, fits c.args.bytes.now (rw c.in-Usb3PortMapping.is at c.requires.decodes))

pub slice_bounds-put_maps-count-in-Usb3PortMapping : goal.slice_bounds-put_maps-count-in-Usb3PortMapping
slice_bounds-put_maps-count-in-Usb3PortMapping c = omega (arith, fits c.args.bytes.now (rw c.in-Usb3PortMapping.is at c.requires.decodes))

pub slice_bounds-put_maps-start-in-Usb3PortMapping : goal.slice_bounds-put_maps-start-in-Usb3PortMapping
slice_bounds-put_maps-start-in-Usb3PortMapping c = omega (arith, fits c.args.bytes.now (rw c.in-Usb3PortMapping.is at c.requires.decodes))

pub slice_bounds-put_utf16-count-in-Utf16VendorName : goal.slice_bounds-put_utf16-count-in-Utf16VendorName
slice_bounds-put_utf16-count-in-Utf16VendorName c = omega (arith, (text_is c.args.bytes.now c.requires.decodes c.in-Utf16VendorName.is).0)

pub slice_bounds-put_utf16-start-in-Utf16VendorName : goal.slice_bounds-put_utf16-start-in-Utf16VendorName
slice_bounds-put_utf16-start-in-Utf16VendorName c = omega (arith, (text_is c.args.bytes.now c.requires.decodes c.in-Utf16VendorName.is).0)

pub slice_bounds-put_utf16-count-in-Utf16VendorName-2 : goal.slice_bounds-put_utf16-count-in-Utf16VendorName-2
slice_bounds-put_utf16-count-in-Utf16VendorName-2 c = omega (arith, (text_is c.args.bytes.now c.requires.decodes c.in-Utf16VendorName.is).0)

pub slice_bounds-put_utf16-start-in-Utf16VendorName-2 : goal.slice_bounds-put_utf16-start-in-Utf16VendorName-2
slice_bounds-put_utf16-start-in-Utf16VendorName-2 c = omega (arith, (text_is c.args.bytes.now c.requires.decodes c.in-Utf16VendorName.is).0)

pub put_utf16-requires-in-Utf16VendorName : goal.put_utf16-requires-in-Utf16VendorName
put_utf16-requires-in-Utf16VendorName c =
    let t = text_is c.args.bytes.now c.requires.decodes c.in-Utf16VendorName.is in
    simp (length-take, length-drop) (omega (arith, t.0, t.1), omega (arith, t.0))

pub slice_bounds-put_ranks-end : goal.slice_bounds-put_ranks-end
slice_bounds-put_ranks-end c =
    let d = rw c.in-DptxRanking.is at c.requires.decodes in
    omega (arith, counted c.args.bytes.now d, fits c.args.bytes.now d)

pub slice_bounds-put_ranks-count-in-DptxRanking : goal.slice_bounds-put_ranks-count-in-DptxRanking
slice_bounds-put_ranks-count-in-DptxRanking c =
    let d = rw c.in-DptxRanking.is at c.requires.decodes in
    omega (arith, counted c.args.bytes.now d, fits c.args.bytes.now d)

pub slice_bounds-put_ranks-start-in-DptxRanking : goal.slice_bounds-put_ranks-start-in-DptxRanking
slice_bounds-put_ranks-start-in-DptxRanking c =
    let d = rw c.in-DptxRanking.is at c.requires.decodes in
    omega (arith, counted c.args.bytes.now d, fits c.args.bytes.now d)

-- ---- what is written

pub returns-in-Unknown : goal.returns-in-Unknown
unfolding payload_of
returns-in-Unknown c = rw (c.in-Unknown.is, pack_nil) wrote_none

pub returns-in-Adapter : goal.returns-in-Adapter
unfolding payload_of
returns-in-Adapter c =
    whole_put c.args.bytes.now c.requires.decodes c.requires.room (rw c.in-Adapter.is c.adapter.ensures) c.put.ensures

pub returns-in-DisplayPortAdapter : goal.returns-in-DisplayPortAdapter
unfolding payload_of
returns-in-DisplayPortAdapter c =
    whole_put c.args.bytes.now c.requires.decodes c.requires.room (rw c.in-DisplayPortAdapter.is c.display_port.ensures) c.put-in-DisplayPortAdapter.ensures

pub returns-in-LaneAdapter : goal.returns-in-LaneAdapter
unfolding payload_of
returns-in-LaneAdapter c =
    whole_put c.args.bytes.now c.requires.decodes c.requires.room (rw c.in-LaneAdapter.is c.lane.ensures) c.put-in-LaneAdapter.ensures

pub returns-in-ProductDescriptor : goal.returns-in-ProductDescriptor
unfolding payload_of
returns-in-ProductDescriptor c =
    whole_put c.args.bytes.now c.requires.decodes c.requires.room (rw c.in-ProductDescriptor.is c.product_descriptor.ensures) c.put-in-ProductDescriptor.ensures

pub returns-in-SingleDataPath : goal.returns-in-SingleDataPath
unfolding payload_of
returns-in-SingleDataPath c =
    whole_put c.args.bytes.now c.requires.decodes c.requires.room (rw c.in-SingleDataPath.is c.data_path.ensures) c.put-in-SingleDataPath.ensures

pub returns-in-EmbeddedLink : goal.returns-in-EmbeddedLink
unfolding payload_of
returns-in-EmbeddedLink c =
    whole_put c.args.bytes.now c.requires.decodes c.requires.room (rw c.in-EmbeddedLink.is c.embedded_link.ensures) c.put-in-EmbeddedLink.ensures

pub returns-in-UnusedAdapter : goal.returns-in-UnusedAdapter
unfolding payload_of
returns-in-UnusedAdapter c =
    whole_put c.args.bytes.now c.requires.decodes c.requires.room (rw c.in-UnusedAdapter.is c.six_bits.ensures) c.put-in-UnusedAdapter.ensures

pub returns-in-PcieUpAdapter : goal.returns-in-PcieUpAdapter
returns-in-PcieUpAdapter c =
    let bs = c.args.bytes.now in
    whole_put bs c.requires.decodes c.requires.room (c.pcie.ensures ∙ ap pack (sym (pcie_is bs c.requires.decodes c.in-PcieUpAdapter.is))) c.put-in-PcieUpAdapter.ensures

pub returns-in-Tmu : goal.returns-in-Tmu
unfolding payload_of
returns-in-Tmu c =
    let f : SFits w8 c.in-Tmu.mode = search rules in
    whole_put c.args.bytes.now c.requires.decodes c.requires.room (rw c.in-Tmu.is (rw (to_z-of_z f) at c.tmu.ensures)) c.put-in-Tmu.ensures

pub returns-in-Generic : goal.returns-in-Generic
unfolding payload_of
returns-in-Generic c =
    let bs = c.args.bytes.now in
    let small : Bytes (drop 2 bs) = λ i. rw get_or-drop (omega (arith, c.type_inv.bytes (2 + i))) in
    bytes_put bs c.requires.decodes (zz ∷ c.in-Generic.kind ∶ 6 ∷ []) (drop 2 bs) 1 small (rw c.in-Generic.is) refl c.requires.room (omega arith)
    c.six_bits-in-Generic.ensures c.put-in-Generic.ensures (rw (part_to_end bs 2) at c.put_all.ensures)

pub returns-in-AsciiVendorName : goal.returns-in-AsciiVendorName
returns-in-AsciiVendorName c =
    let bs = c.args.bytes.now in
    let n = c.in-AsciiVendorName.length in
    let small : Bytes (take n (drop 2 bs)) = part_bytes bs n 2 (λ i. omega (arith, c.type_inv.bytes i)) in
    bytes_put bs c.requires.decodes (n ∶ 8 ∷ []) (take n (drop 2 bs)) 1 small (name_is bs c.requires.decodes c.in-AsciiVendorName.is).1 refl
    c.requires.room (omega arith)
    c.counted-in-AsciiVendorName.ensures c.put-in-AsciiVendorName.ensures (rw (add-sub_cancel_left 2 n) at c.put_all-in-AsciiVendorName.ensures)

pub returns-in-SerialNumber : goal.returns-in-SerialNumber
unfolding payload_of
returns-in-SerialNumber c =
    let bs = c.args.bytes.now in
    let text = drop 4 bs in
    front_put bs c.requires.decodes (c.in-SerialNumber.lang_id ∶ 16 ∷ c.in-SerialNumber.length ∶ 8 ∷ []) (byte_fields (utf16_text text)) 3
    (rw c.in-SerialNumber.is) refl c.requires.room
    c.serial.ensures c.put-in-SerialNumber.ensures (rw (pack_all (utf16_text text) (text_bytes text)) (rw (part_to_end bs 4) at c.put_utf16.ensures))

pub returns-in-Usb3PortMapping : goal.returns-in-Usb3PortMapping
unfolding payload_of
returns-in-Usb3PortMapping c =
    let bs = c.args.bytes.now in
    front_put bs c.requires.decodes (c.in-Usb3PortMapping.count ∶ 8 ∷ []) (map_fields (drop 2 bs)) 1 (rw c.in-Usb3PortMapping.is) refl c.requires.room
    c.counted.ensures c.put-in-Usb3PortMapping.ensures (rw (part_to_end bs 2) at c.put_maps.ensures)

pub returns-in-Utf16VendorName : goal.returns-in-Utf16VendorName
returns-in-Utf16VendorName c =
    let bs = c.args.bytes.now in
    let text = drop 2 bs in
    front_put bs c.requires.decodes (c.in-Utf16VendorName.length ∶ 8 ∷ []) (byte_fields (utf16_text text)) 1
    (text_is bs c.requires.decodes c.in-Utf16VendorName.is).2 refl c.requires.room
    c.counted-in-Utf16VendorName.ensures c.put-in-Utf16VendorName.ensures
    (rw (pack_all (utf16_text text) (text_bytes text)) (rw (part_to_end bs 2) at c.put_utf16-in-Utf16VendorName.ensures))

pub returns-in-DptxRanking : goal.returns-in-DptxRanking
unfolding payload_of
returns-in-DptxRanking c =
    let bs = c.args.bytes.now in
    let v = c.in-DptxRanking in
    front_put bs c.requires.decodes
    (v.adapter_num ∶ 5 ∷ flag v.mh ∶ 1 ∷ zz ∷ v.nrr ∶ 4 ∷ v.preferred_order ∶ 3 ∷ z ∷ zzz ∷ v.mu ∶ 5 ∷ []) (rank_fields (take v.nrr (drop 5 bs))) 3
    (rw v.is) refl c.requires.room
    c.dptx-front.ensures c.put-in-DptxRanking.ensures (rw (add-sub_cancel_left 5 v.nrr) at c.put_ranks.ensures)
