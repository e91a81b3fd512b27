-- How the standard registry serves each code: whether its entries share packets, and by which rule. Seven logged kinds and four replay kinds.
use Rattle.std.specs.Prelude.{ℕ, Bool, true, false, cond, ◌==◌}
use Rattle.records.specs.Codecs.{verdict_of}
use Rattle.records.specs.Services.{Service, unserved, served}
use Rattle.records.specs.declared.code.Code.{Code}
use Rattle.records.specs.declared.code.MessageType.{MessageType}
use Rattle.records.specs.declared.code.MessageType.TheVariants.{LoggingStream, ReplayData}
use Rattle.frames.specs.Frames.{Shape, codec as frame_codec}
use Rattle.kind_analog.specs.Analog.{codec as analog_codec}
use Rattle.kind_bytes.specs.Layouts.{Layout, codec as bytes_codec, uart, ethernet}
use Rattle.kind_can.specs.Can.{can_shape, logged_can, logged_can_fd, replay_can, replay_can_fd}
use Rattle.kind_flexray.specs.FlexRay.{flex_ray_verdict}
use Rattle.kind_lin.specs.Lin.{lin_verdict}

-- a code served as a kind of frames, as a kind of plain bytes; LIN and FlexRay by the verdicts that the worked examples speak of
abbrev pub frame_service : Bool → Shape → Service
frame_service shares shape = served shares (verdict_of (frame_codec shape))

abbrev pub bytes_service : Bool → Layout → Service
bytes_service shares layout = served shares (verdict_of (bytes_codec layout))

-- by data type; all logged kinds share packets
abbrev pub logged_service : ℕ → Service
logged_service t =
    cond (0x02 == t) (frame_service true (can_shape logged_can))
    (cond (0x03 == t) (frame_service true (can_shape logged_can_fd))
    (cond (0x04 == t) (served true (lin_verdict LoggingStream))
    (cond (0x08 == t) (served true (flex_ray_verdict LoggingStream))
    (cond (0x10 == t) (bytes_service true uart)
    (cond (0x20 == t) (served true (verdict_of analog_codec))
    (cond (0x80 == t) (bytes_service true ethernet)
    unserved))))))

-- of the replay kinds only FlexRay does
abbrev pub replay_service : ℕ → Service
replay_service t =
    cond (0x02 == t) (frame_service false (can_shape replay_can))
    (cond (0x03 == t) (frame_service false (can_shape replay_can_fd))
    (cond (0x04 == t) (served false (lin_verdict ReplayData))
    (cond (0x08 == t) (served true (flex_ray_verdict ReplayData))
    unserved)))

abbrev pub service_on : MessageType → ℕ → Service
service_on LoggingStream t = logged_service t
service_on ReplayData t = replay_service t

abbrev pub standard_service : Code → Service
standard_service code = service_on code.message_type code.data_type
