mod Tracked
