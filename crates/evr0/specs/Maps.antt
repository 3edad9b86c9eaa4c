-- From the frame that was read to the definition's.
use Rattle.evr0_section.specs.Section as of
use Rattle.evr0.specs.declared.frame.Frame as frame

abbrev pub frame_out : frame.Frame → of.Frame
frame_out f = record { start = f.start; len = f.len }
