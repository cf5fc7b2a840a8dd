use Rattle.rpc_frames.proofs.WrittenLemmas.{frame_written}
use Rattle.rpc_frames.proofs.laws.frames_read_back.Goals as goal

pub returns : goal.returns
returns c = frame_written
