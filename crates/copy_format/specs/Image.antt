-- The bytes of a copy, as a function of what it holds.
use Rattle.std.specs.Prelude.{ℕ, suc, ◌+◌, ◌-◌, ◌*◌, ◌%◌, ◌^◌, List, [], ◌∷◌, ◌++◌, map, length, replicate}
use Rattle.std.specs.List.{flat_map}
use Rattle.records.specs.BigEndian.{low}
use Rattle.records.specs.Codes.{type_number}
use Rattle.records.specs.Services.{Services}
use Rattle.records.specs.declared.code.MessageType.{MessageType}
use Rattle.records.specs.declared.code.MessageType.TheVariants.{LoggingStream, ReplayData}
use Rattle.tecmp.specs.Reading.{Entry}
use Rattle.tecmp.specs.declared.head.Stream.{Stream}
use Rattle.copy_format.specs.Cutting.{flat, cut}
use Rattle.copy_format.specs.Items.{Item, item_of, allowed, sharing}

-- the most bytes of a packet
abbrev pub packet_limit : ℕ
packet_limit = 1500

-- an entry: interface, time word, length, flags, data
unfoldable pub entry_head : ℕ → ℕ → ℕ → ℕ → List ℕ
entry_head interface time long flags = low 4 interface ++ (low 8 time ++ (low 2 long ++ low 2 flags))

abbrev pub item_bytes : Item → List ℕ
item_bytes i = entry_head i.interface i.time (length i.bytes) i.flags ++ i.bytes

-- packets are numbered from 1, and 0 follows 65,535; in replay counter and device flags are 0
abbrev pub counter_of : MessageType → ℕ → ℕ
counter_of LoggingStream number = number % 65536
counter_of ReplayData number = 0

abbrev pub device_flags_of : MessageType → ℕ
device_flags_of LoggingStream = 15
device_flags_of ReplayData = 0

-- device ID, counter, version, message type, data type, reserved, device flags
unfoldable pub packet_head : Stream → ℕ → ℕ → List ℕ
packet_head stream number data_type =
    low 2 stream.«module»
    ++ (low 2 (counter_of stream.message_type number)
    ++ ((3 ∷ (type_number stream.message_type ∷ []))
    ++ (low 2 data_type ++ ((0 ∷ (0 ∷ [])) ++ low 2 (device_flags_of stream.message_type)))))

abbrev pub type_in : List Item → ℕ
type_in [] = 0
type_in (i ∷ is) = i.data_type

unfoldable pub packet_bytes : Stream → ℕ → List Item → List ℕ
packet_bytes stream number is = packet_head stream number (type_in is) ++ flat_map item_bytes is

-- a word: its kind in the top four bits, a number in the others
unfoldable pub word : ℕ → ℕ → List ℕ
word kind n = low 4 (kind * 2 ^ 28 + n)

-- the zeros after n bytes, up to a multiple of four
abbrev pub filling : ℕ → ℕ
filling n = (4 - n % 4) % 4

-- a packet in a copy: the packet word, the packet, the filling
unfoldable pub framed : List ℕ → List ℕ
framed packet = word 1 (length packet) ++ (packet ++ replicate (filling (length packet)) 0)

abbrev pub body : Stream → ℕ → List (List Item) → List ℕ
body stream number [] = []
body stream number (p ∷ ps) = framed (packet_bytes stream number p) ++ body stream (suc number) ps

-- the closed copy of these packets: the closing word counts the entries
abbrev pub copy_of : Stream → List (List Item) → List ℕ
copy_of stream ps = body stream 1 ps ++ word 2 (length (flat ps))

-- the packets of a list of entries: each entry joins the last packet where it may
abbrev pub packets_of : Services → Stream → List Entry → List (List Item)
packets_of services stream es = cut (allowed (sharing services stream.message_type) packet_limit) (map (item_of services) es)

-- the canonical copy of a list of entries
abbrev pub image : Services → Stream → List Entry → List ℕ
image services stream es = copy_of stream (packets_of services stream es)
