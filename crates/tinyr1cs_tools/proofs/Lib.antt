mod FileSize
